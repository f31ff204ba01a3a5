-- Numbers in decimal: how a number's digits end, that there are at most 20, and that they are those that the library prints.
use mathlib.Core.Path.{◌≡◌, refl, sym, ap, ◌∙◌}
use mathlib.Core.Bool.{Bool, true, false, cond}
use mathlib.Core.List.{List, [], ◌∷◌, ◌++◌}
use Prim.Native.Nat.{ℕ, zero, suc, ◌+◌, ◌*◌, ◌/◌, ◌%◌, ◌^◌, ◌≤◌, ◌<◌}
use native.Mathlib.Omega.{arith}
use lib.Dec.{ltb}
use lib.ListN.{length, length-append}
use borrow.Author.Tests.{lt-ltb, le-ltb, ltb-true, ltb-false}
use Rattle.std.specs.Fmt as printed
use Rattle.std.proofs.lemmas.Fmt.{decimal_by_steps}
use Rattle.text.specs.Text.{digit, decimal_in, decimal}

-- below 10 one digit will do
pub decimal_in_small : (most n : ℕ) → n < 10 → decimal_in (suc most) n ≡ digit n ∷ []
unfolding decimal_in
decimal_in_small most n small = simp (lt-ltb _ _ small)

-- else the last digit stands behind the others
pub decimal_in_more : (most n : ℕ) → 10 ≤ n → decimal_in (suc most) n ≡ decimal_in most (n / 10) ++ (digit (n % 10) ∷ [])
unfolding decimal_in
decimal_in_more most n more = simp (le-ltb _ _ more)

-- the first number with more digits than one and so many besides
limit : ℕ → ℕ
limit zero = 10
limit (suc most) = 10 * limit most

-- room for one digit more changes nothing
decimal_in-suc : (most n : ℕ) → n < limit most → decimal_in (suc (suc most)) n ≡ decimal_in (suc most) n
unfolding limit
decimal_in-suc zero n few = decimal_in_small 1 n few ∙ sym (decimal_in_small 0 n few)
decimal_in-suc (suc most) n few = go (ltb n 10) refl (decimal_in-suc most (n / 10))
  where
    go : (b : Bool) → ltb n 10 ≡ b → (n / 10 < limit most → decimal_in (suc (suc most)) (n / 10) ≡ decimal_in (suc most) (n / 10))
        → decimal_in (suc (suc (suc most))) n ≡ decimal_in (suc (suc most)) n
    go true small tenth = let h = ltb-true n 10 small in decimal_in_small (suc (suc most)) n h ∙ sym (decimal_in_small (suc most) n h)
    go false large tenth =
        let h = ltb-false n 10 large in
        decimal_in_more (suc (suc most)) n h
        ∙ ap (λ (text : List ℕ). text ++ (digit (n % 10) ∷ [])) (tenth (omega arith))
        ∙ sym (decimal_in_more (suc most) n h)

-- a number of 64 bits
module _ (n : ℕ) where
  pub decimal_small : n < 10 → decimal n ≡ digit n ∷ []
  decimal_small = decimal_in_small 19 n

  pub decimal_more : 10 ≤ n → n < 2 ^ 64 → decimal n ≡ decimal (n / 10) ++ (digit (n % 10) ∷ [])
  unfolding limit
  decimal_more large fits =
      decimal_in_more 19 n large ∙ ap (λ (text : List ℕ). text ++ (digit (n % 10) ∷ [])) (sym (decimal_in-suc 18 (n / 10) (omega arith)))

-- at most so many digits
pub length-decimal_in : (most n : ℕ) → length (decimal_in most n) ≤ most
unfolding decimal_in
length-decimal_in zero n = omega arith
length-decimal_in (suc most) n = go (ltb n 10) (length-decimal_in most (n / 10))
  where
    go : (b : Bool) → length (decimal_in most (n / 10)) ≤ most
        → length (cond b (digit n ∷ []) (decimal_in most (n / 10) ++ (digit (n % 10) ∷ []))) ≤ suc most
    go true tenth = omega arith
    go false tenth = rw length-append (omega arith)

-- the digits that the library prints
pub decimal_printed : (n : ℕ) → n < 2 ^ 64 → printed.decimal n ≡ decimal n
unfolding digit
decimal_printed n fits =
    decimal_by_steps (λ (m : ℕ) (ds : List ℕ). m < 2 ^ 64 → ds ≡ decimal m)
    (λ m small _. sym (decimal_small m small ∙ simp (lt-ltb _ _ small)))
    (λ m ds large tenth below.
    ap (λ (text : List ℕ). text ++ ((48 + m % 10) ∷ [])) (tenth (omega arith))
    ∙ sym (decimal_more m large below ∙ simp (lt-ltb (m % 10) 10 (omega arith))))
    n fits fits
