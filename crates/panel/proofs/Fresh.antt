-- The number of a fresh panel, where it is a refusal's. Assumes nothing.
use mathlib.Core.Path.{◌≡◌, refl, sym}
use mathlib.Core.Bool.{Bool, true, false}
use Prim.Native.Nat.{ℕ}
use lib.Dec.{ltb}
use borrow.Author.Tests.{ltb-true, ltb-false}
use Rattle.rules.specs.Refusals.{fresh_number}
use Rattle.exports.proofs.Fresh.{fresh_number_above, fresh_number_within}

pub fresh_refusal : (number : ℕ) → (fresh_number number ≡ 0 → ⊥) → 11 ≡ fresh_number number
fresh_refusal number refuses = go (ltb 63 number) refl
  where
    go : (b : Bool) → ltb 63 number ≡ b → 11 ≡ fresh_number number
    go true e = sym (fresh_number_above number (ltb-true 63 number e))
    go false e = absurd (refuses (fresh_number_within number (ltb-false 63 number e)))
