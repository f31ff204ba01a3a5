-- Laws of `each_earlier` and `each_below`, the tests on every number of a list: what they say, and how a loop finds them. Assumes nothing.
use mathlib.Core.Path.{◌≡◌, refl}
use mathlib.Core.Bool.{Bool, true, false, ◌&&◌, and-false}
use mathlib.Core.List.{List, [], ◌∷◌}
use Prim.Native.Nat.{ℕ, zero, suc, ◌+◌, ◌-◌, ◌≤◌, ◌<◌}
use native.Mathlib.Numerals.{sub-one}
use native.Mathlib.Omega.{arith}
use lib.Dec.{ltb}
use lib.ListN.{length, get_or}
use borrow.Author.Tests.{lt-ltb, le-ltb, ltb-true, ltb-false}
use Rattle.numbers.specs.Numbers.{number_at, numbers_at}
use Rattle.frame.specs.Reading.{each_earlier}
use Rattle.frame.specs.Readable.{each_below}
use Rattle.frame.proofs.Conjunction.{and_both}

-- ---- each at least 1 and below the deadline

each_earlier-cons : (deadline e : ℕ) (es : List ℕ) → each_earlier deadline (e ∷ es) ≡ true → (0 < e) × (e < deadline) × (each_earlier deadline es ≡ true)
unfolding each_earlier
each_earlier-cons deadline e es h =
    let t = and_both (ltb 0 e && ltb e deadline) (each_earlier deadline es) h in
    let u = and_both (ltb 0 e) (ltb e deadline) t.0 in
    (ltb-true 0 e u.0, ltb-true e deadline u.1, t.1)

pub each_earlier_pos : (deadline : ℕ) (es : List ℕ) → each_earlier deadline es ≡ true → (i : ℕ) → i < length es → 0 < get_or es i 0
each_earlier_pos deadline [] h i l = absurd (omega arith)
each_earlier_pos deadline (e ∷ es) h zero l = (each_earlier-cons deadline e es h).0
each_earlier_pos deadline (e ∷ es) h (suc i) l = each_earlier_pos deadline es (each_earlier-cons deadline e es h).2 i (omega arith)

pub each_earlier-lt : (deadline : ℕ) (es : List ℕ) → 0 < deadline → each_earlier deadline es ≡ true → (i : ℕ) → get_or es i 0 < deadline
each_earlier-lt deadline [] pos h i = pos
each_earlier-lt deadline (e ∷ es) pos h zero = (each_earlier-cons deadline e es h).1
each_earlier-lt deadline (e ∷ es) pos h (suc i) = each_earlier-lt deadline es pos (each_earlier-cons deadline e es h).2 i

-- the numbers that are left to a loop which reads them one by one from place at on
module _ (deadline : ℕ) (bs : List ℕ) (at width : ℕ) where
  pub each_earlier-none : (left : ℕ) → left ≤ 0 → each_earlier deadline (numbers_at bs at width left) ≡ true
  unfolding each_earlier numbers_at
  each_earlier-none zero h = refl
  each_earlier-none (suc left) h = absurd (omega arith)

  pub each_earlier-zero : (left : ℕ) → 0 < left → number_at bs at width ≡ 0 → each_earlier deadline (numbers_at bs at width left) ≡ false
  unfolding each_earlier numbers_at
  each_earlier-zero zero h e = absurd (omega arith)
  each_earlier-zero (suc left) h e = simp (le-ltb 0 (number_at bs at width) (omega arith))

  pub each_earlier_late : (left : ℕ) → 0 < left → deadline ≤ number_at bs at width → each_earlier deadline (numbers_at bs at width left) ≡ false
  unfolding each_earlier numbers_at
  each_earlier_late zero h e = absurd (omega arith)
  each_earlier_late (suc left) h e = simp (le-ltb (number_at bs at width) deadline e, and-false)

  pub each_earlier_outside : (left : ℕ) → 0 < left → (0 < number_at bs at width → deadline ≤ number_at bs at width)
      → each_earlier deadline (numbers_at bs at width left) ≡ false
  each_earlier_outside left h outside = go (ltb 0 (number_at bs at width)) refl
    where
      go : (b : Bool) → ltb 0 (number_at bs at width) ≡ b → each_earlier deadline (numbers_at bs at width left) ≡ false
      go true e = each_earlier_late left h (outside (ltb-true _ _ e))
      go false e = each_earlier-zero left h (omega (arith, ltb-false 0 (number_at bs at width) e))

  pub each_earlier-next : (left : ℕ) → 0 < left → 0 < number_at bs at width → number_at bs at width < deadline
      → each_earlier deadline (numbers_at bs at width left) ≡ each_earlier deadline (numbers_at bs (at + width) width (left - 1))
  unfolding each_earlier numbers_at
  each_earlier-next zero h a b = absurd (omega arith)
  each_earlier-next (suc left) h a b =
      simp (lt-ltb 0 (number_at bs at width) a, lt-ltb (number_at bs at width) deadline b, sub-one (suc left))

-- ---- each below a limit

module _ (limit : ℕ) where
  pub each_below-lt : (ns : List ℕ) → 0 < limit → each_below limit ns ≡ true → (i : ℕ) → get_or ns i 0 < limit
  unfolding each_below
  each_below-lt [] pos h i = pos
  each_below-lt (n ∷ ns) pos h zero = ltb-true n limit (and_both (ltb n limit) (each_below limit ns) h).0
  each_below-lt (n ∷ ns) pos h (suc i) = each_below-lt ns pos (and_both (ltb n limit) (each_below limit ns) h).1 i

  pub lt-each_below : (ns : List ℕ) → ((i : ℕ) → i < length ns → get_or ns i 0 < limit) → each_below limit ns ≡ true
  unfolding each_below
  lt-each_below [] h = refl
  lt-each_below (n ∷ ns) h = simp (lt-ltb n limit (h 0 (omega arith)), lt-each_below ns (λ i l. h (suc i) (omega arith)))
