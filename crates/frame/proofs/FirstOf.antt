-- Laws of `first_of`, the number of the first check of a table that applies, as code goes through the table: it is past the checks before n,
-- and at n it passes or stops. Assumes nothing.
use mathlib.Core.Path.{◌≡◌, refl, sym, ◌∙◌}
use mathlib.Core.Bool.{Bool, true, false, cond, ◌&&◌, true≢false}
use mathlib.Core.List.{List, [], ◌∷◌, ◌++◌}
use Prim.Native.Nat.{ℕ, zero, suc}
use native.Mathlib.Omega.{arith}
use lib.ListN.{get_or, take, drop}
use lib.Dec.{ltb}
use borrow.Author.Tests.{ltb-true}
use Rattle.frame.specs.Refusal.{first_of}
use Rattle.frame.proofs.Conjunction.{and_both}

-- whether the check at n applies, and its number
abbrev pub applies : List (Bool × ℕ) → ℕ → Bool
applies checks n = (get_or checks n (false, 0)).0

abbrev pub number_of : List (Bool × ℕ) → ℕ → ℕ
number_of checks n = (get_or checks n (false, 0)).1

-- none of the checks before n applies
abbrev pub Past : List (Bool × ℕ) → ℕ → Type 0
Past checks n = first_of checks ≡ first_of (drop n checks)

step : (checks : List (Bool × ℕ)) (n : ℕ) → applies checks n ≡ false → first_of (drop n checks) ≡ first_of (drop (suc n) checks)
unfolding first_of
step [] zero e = refl
step [] (suc n) e = refl
step (c ∷ checks) zero e = rw e
step (c ∷ checks) (suc n) e = step checks n e

pub pass : (checks : List (Bool × ℕ)) (n : ℕ) → Past checks n → applies checks n ≡ false → Past checks (suc n)
pass checks n p e = p ∙ step checks n e

here : (checks : List (Bool × ℕ)) (n : ℕ) → applies checks n ≡ true → first_of (drop n checks) ≡ number_of checks n
unfolding first_of
here [] zero e = absurd (true≢false (sym e))
here [] (suc n) e = absurd (true≢false (sym e))
here (c ∷ checks) zero e = rw e
here (c ∷ checks) (suc n) e = here checks n e

pub stop : (checks : List (Bool × ℕ)) (n : ℕ) → Past checks n → applies checks n ≡ true → number_of checks n ≡ first_of checks
stop checks n p e = sym (p ∙ here checks n e)

-- ---- a table of which the first n checks were gone through

-- each number of the table passes a test
unfoldable pub each_number : (ℕ → Bool) → List (Bool × ℕ) → Bool
each_number test [] = true
each_number test (check ∷ checks) = test check.1 && each_number test checks

-- each number of the table is a refusal's
abbrev pub each_refuses : List (Bool × ℕ) → Bool
each_refuses checks = each_number (ltb 0) checks

passes : (t : Bool) (n rest : ℕ) → ltb 0 n ≡ true → cond t n rest ≡ 0 → (t ≡ false) × (rest ≡ 0)
passes true n rest r e = absurd (omega (arith, ltb-true 0 n r))
passes false n rest r e = (refl, e)

pub Past-take : (checks : List (Bool × ℕ)) (n : ℕ) → each_refuses checks ≡ true → first_of (take n checks) ≡ 0 → Past checks n
unfolding first_of each_number
Past-take checks zero r e = refl
Past-take [] (suc n) r e = refl
Past-take (c ∷ checks) (suc n) r e =
    let refuses = and_both (ltb 0 c.1) (each_refuses checks) r in
    let t = passes c.0 c.1 (first_of (take n checks)) refuses.0 e in
    rw t.0 (Past-take checks n refuses.1 t.1)

pub applies-none : (checks : List (Bool × ℕ)) → each_refuses checks ≡ true → first_of checks ≡ 0 → (n : ℕ) → applies checks n ≡ false
unfolding first_of each_number
applies-none [] r e n = refl
applies-none (c ∷ checks) r e n =
    let refuses = and_both (ltb 0 c.1) (each_refuses checks) r in
    let t = passes c.0 c.1 (first_of checks) refuses.0 e in
    go t.0 (applies-none checks refuses.1 t.1) n
  where
    go : c.0 ≡ false → ((i : ℕ) → applies checks i ≡ false) → (i : ℕ) → applies (c ∷ checks) i ≡ false
    go head tail zero = head
    go head tail (suc i) = tail i

pub first_of_take : (checks : List (Bool × ℕ)) (n : ℕ) → (first_of (take n checks) ≡ 0 → ⊥) → first_of (take n checks) ≡ first_of checks
unfolding first_of
first_of_take checks zero h = absurd (h refl)
first_of_take [] (suc n) h = absurd (h refl)
first_of_take ((true, m) ∷ checks) (suc n) h = refl
first_of_take ((false, m) ∷ checks) (suc n) h = first_of_take checks n h

-- ---- a table in two parts

pub first_of_append : (checks more : List (Bool × ℕ)) → each_refuses checks ≡ true → first_of (checks ++ more) ≡ 0
    → (first_of checks ≡ 0) × (first_of more ≡ 0)
unfolding first_of each_number
first_of_append [] more r e = (refl, e)
first_of_append (c ∷ checks) more r e =
    let refuses = and_both (ltb 0 c.1) (each_refuses checks) r in
    let t = passes c.0 c.1 (first_of (checks ++ more)) refuses.0 e in
    let rest = first_of_append checks more refuses.1 t.1 in
    (rw t.0 rest.0, rest.1)

pub first_of_left : (checks more : List (Bool × ℕ)) → (first_of checks ≡ 0 → ⊥) → first_of (checks ++ more) ≡ first_of checks
unfolding first_of
first_of_left [] more h = absurd (h refl)
first_of_left ((true, m) ∷ checks) more h = refl
first_of_left ((false, m) ∷ checks) more h = first_of_left checks more h

pub first_of_right : (checks more : List (Bool × ℕ)) → each_refuses checks ≡ true → first_of checks ≡ 0 → first_of (checks ++ more) ≡ first_of more
unfolding first_of each_number
first_of_right [] more r e = refl
first_of_right (c ∷ checks) more r e =
    let refuses = and_both (ltb 0 c.1) (each_refuses checks) r in
    let t = passes c.0 c.1 (first_of checks) refuses.0 e in
    rw t.0 (first_of_right checks more refuses.1 t.1)

-- ---- what holds of 0 and of each number of the table holds of the first that applies

pub first_of_each : (test : ℕ → Bool) (checks : List (Bool × ℕ)) → test 0 ≡ true → each_number test checks ≡ true → test (first_of checks) ≡ true
unfolding first_of each_number
first_of_each test [] none each = none
first_of_each test ((true, n) ∷ checks) none each = (and_both (test n) (each_number test checks) each).0
first_of_each test ((false, n) ∷ checks) none each = first_of_each test checks none (and_both (test n) (each_number test checks) each).1
