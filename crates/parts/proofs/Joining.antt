-- What pairs of numbers joined to one tell, and one pair more. Assumes nothing.
use Rattle.std.proofs.Common.{◌≡◌, ℕ, ◌+◌, ◌%◌, ◌^◌, ◌<◌, ◌≤◌, List, get_or, arith}
use mathlib.Core.Logic.{by_cases}
use native.Mathlib.Decide.{ℕ_discrete}
use lib.Bits.{bit_or, or_add_and, and_le_l, and_le_r}
use Rattle.parts.specs.Joined.{half, Joined}

-- what is joined is at most the whole
le_or_l : (a b : ℕ) → a ≤ bit_or a b
le_or_l a b = omega (arith, or_add_and a b, and_le_r a b)

le_or_r : (a b : ℕ) → b ≤ bit_or a b
le_or_r a b = omega (arith, or_add_and a b, and_le_l a b)

-- one pair more, where less is what the limit leaves beside it
module _ (limit : ℕ) (marks barrier : List ℕ) (i all less : ℕ)
    (leaves : (less + bit_or (get_or marks i 0) (get_or barrier i 0)) % 2 ^ 64 ≡ limit) (fits : less < 2 ^ 64) where
  abbrev pair : ℕ
  pair = bit_or (get_or marks i 0) (get_or barrier i 0)

  abbrev more : ℕ
  more = bit_or all (bit_or pair less)

  pair_within : more < half → limit < half → pair ≤ limit
  pair_within small low =
      let kept = le_or_r all (bit_or pair less) in
      omega (arith, kept, le_or_l pair less, le_or_r pair less, leaves)

  pub joined_more : Joined limit marks barrier i all → Joined limit marks barrier (i + 1) more
  joined_more before k lt small low =
      by_cases (ℕ_discrete k i)
      (λ (e : k ≡ i).
      let within = pair_within small low in
      rw e (omega (arith, le_or_l (get_or marks i 0) (get_or barrier i 0)), omega (arith, le_or_r (get_or marks i 0) (get_or barrier i 0))))
      (λ other. before k (omega (arith, other)) (omega (arith, le_or_l all (bit_or pair less))) low)
