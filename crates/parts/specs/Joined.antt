-- What marks and barrier entries joined to one number tell of them. No promise of a public call cites it.
use Rattle.std.specs.Prelude.{ℕ, ◌<◌, ◌≤◌, List, slice_index}

-- half of the numbers that 64 bits hold
abbrev pub half : ℕ
half = 9223372036854775808

-- where they are below that, and the limit is, no mark and no barrier entry is above the limit
abbrev pub Joined : ℕ → List ℕ → List ℕ → ℕ → ℕ → Type 0
Joined limit marks barrier count joined =
    (i : ℕ) → i < count → joined < half → limit < half → (slice_index marks i ≤ limit) × (slice_index barrier i ≤ limit)
