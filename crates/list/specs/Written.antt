-- What the program "list" may write.
use Rattle.std.specs.Prelude.{ℕ, ◌+◌, ◌^◌, ◌<◌, ◌≡◌, List, length, take, drop, Option}
use Rattle.std.specs.Io.KnownBytes.{Appends}

-- a part is the bytes of the whole from a place on, and ends at a place that fits into 32 bits
pub record BytesAt (whole : List ℕ) (at : ℕ) (part : List ℕ) : Type 0 where
  pub bytes : take (length part) (drop at whole) ≡ part
  pub small : at + length part < 2 ^ 32

-- known bytes grow by the first of these, by some of them, all or none
abbrev pub AppendsSome : Option (List ℕ) → Option (List ℕ) → List ℕ → Type 0
AppendsSome old new bytes = (n : ℕ) × Appends old new (take n bytes)
