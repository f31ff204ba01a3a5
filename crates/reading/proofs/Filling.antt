-- A loop that goes through the mask's bits, lowest first, and lays each entry at its panel's place. Assumes nothing.
use mathlib.Core.Path.{◌≡◌, refl, sym, ap, ap₂, ◌∙◌}
use mathlib.Core.List.{List, [], ◌∷◌, ◌++◌, append-nil}
use Prim.Native.Nat.{ℕ, suc, ◌+◌, ◌-◌, ◌*◌, ◌/◌, ◌%◌, ◌≤◌, ◌<◌}
use native.Mathlib.Nat.{zero-mul, one-mul, zero-add, mul-suc, add-zero}
use native.Mathlib.Numerals.{add-one, one-add}
use native.Mathlib.Omega.{arith}
use lib.ListN.{length, get_or, take, drop, set, replicate, length-set}
use lib.Seq.{take_all, take-suc, take-suc-set, append_snoc, drop-drop, drop-set-lt, get_or-drop}
use lib.Count.{ones_in}
use Rattle.numbers.specs.Numbers.{number_at, numbers_at}
use Rattle.frame.specs.Message.{by_panel}

-- the entries of the n panels that are left, whose bits are bits, from place at on
abbrev left : List ℕ → ℕ → ℕ → ℕ → ℕ → List ℕ
left bs width at bits n = by_panel n bits (numbers_at bs at width (ones_in n bits))

ones_even : (bits n : ℕ) → bits % 2 ≡ 0 → ones_in (suc n) bits ≡ ones_in n (bits / 2)
unfolding ones_in
ones_even bits n z = rw (z, zero-add)

ones_odd : (bits n : ℕ) → bits % 2 ≡ 1 → ones_in (suc n) bits ≡ suc (ones_in n (bits / 2))
unfolding ones_in
ones_odd bits n o = rw (o, one-add)

left-none : (bs : List ℕ) (width at bits : ℕ) → left bs width at bits 0 ≡ []
unfolding by_panel
left-none bs width at bits = refl

left_even : (bs : List ℕ) (width at bits n : ℕ) → bits % 2 ≡ 0 → left bs width at bits (suc n) ≡ 0 ∷ left bs width at (bits / 2) n
unfolding by_panel ones_in
left_even bs width at bits n z = rw (z, zero-mul, zero-add)

left_odd : (bs : List ℕ) (width at bits n : ℕ) → bits % 2 ≡ 1
    → left bs width at bits (suc n) ≡ number_at bs at width ∷ left bs width (at + width) (bits / 2) n
unfolding by_panel ones_in numbers_at
left_odd bs width at bits n o = rw (o, one-mul, one-add)

-- es holds the entries of the panels below s, and 0 behind them; the bits and the place are those of the panels that are left
pub record Filled (bs : List ℕ) (width start mask : ℕ) (es : List ℕ) (bits at s : ℕ) : Type 0 where
  pub below : s ≤ 64
  pub full : length es ≡ 64
  pub room : at + width * ones_in (64 - s) bits ≤ length bs
  pub so_far : take s es ++ left bs width at bits (64 - s) ≡ left bs width start mask 64
  pub clean : drop s es ≡ replicate (64 - s) 0

module _ (bs : List ℕ) (width start mask : ℕ) where
  pub filled_none : start + width * ones_in 64 mask ≤ length bs → Filled bs width start mask (replicate 64 0) mask start 0
  filled_none h = record { below = omega arith; full = refl; room = h; so_far = refl; clean = refl }

  pub filled_all : (es : List ℕ) (bits at s : ℕ) → Filled bs width start mask es bits at s → 64 ≤ s → es ≡ left bs width start mask 64
  filled_all es bits at s f h =
      let none : left bs width at bits (64 - s) ≡ [] = ap (left bs width at bits) (omega arith) ∙ left-none bs width at bits in
      sym (append-nil es) ∙ ap₂ (λ (a b : List ℕ). a ++ b) (sym (take_all s es (omega (arith, f.full)))) (sym none) ∙ f.so_far

module _ (bs : List ℕ) (width start mask : ℕ) (es : List ℕ) (bits at s : ℕ) (f : Filled bs width start mask es bits at s) (more : s < 64) where
  n : ℕ
  n = 64 - (s + 1)

  one_more : 64 - s ≡ suc n
  unfolding n
  one_more = omega arith

  clean_next : drop (s + 1) es ≡ replicate n 0
  clean_next = sym (drop-drop 1 s es) ∙ ap (drop 1) f.clean ∙ ap (λ (k : ℕ). drop 1 (replicate k 0)) one_more

  clean_here : get_or es s 0 ≡ 0
  clean_here =
      ap (λ (i : ℕ). get_or es i 0) (sym (add-zero s)) ∙ sym (get_or-drop s es 0 0) ∙ ap (λ (l : List ℕ). get_or l 0 0) f.clean
      ∙ ap (λ (k : ℕ). get_or (replicate k 0) 0 0) one_more

  pub room_odd : bits % 2 ≡ 1 → at + width + width * ones_in (64 - (s + 1)) (bits / 2) ≤ length bs
  unfolding n
  room_odd o =
      omega (
        arith,
        f.room,
        ap (λ (k : ℕ). width * ones_in k bits) one_more,
        ap (λ (k : ℕ). width * k) (ones_odd bits n o),
        mul-suc width (ones_in n (bits / 2)),
      )

  -- the entry e of panel s goes behind those before it
  next : (es' : List ℕ) (e at' : ℕ) → take (s + 1) es' ≡ take s es ++ (e ∷ []) → left bs width at bits (suc n) ≡ e ∷ left bs width at' (bits / 2) n
      → take (s + 1) es' ++ left bs width at' (bits / 2) n ≡ left bs width start mask 64
  next es' e at' here rest =
      ap (λ (l : List ℕ). l ++ left bs width at' (bits / 2) n) here
      ∙ append_snoc (take s es) e (left bs width at' (bits / 2) n)
      ∙ ap (λ (l : List ℕ). take s es ++ l) (sym (ap (left bs width at bits) one_more ∙ rest))
      ∙ f.so_far

  pub filled_even : bits % 2 ≡ 0 → Filled bs width start mask es (bits / 2) at (s + 1)
  unfolding n
  filled_even z =
      let here : take (s + 1) es ≡ take s es ++ (0 ∷ []) =
      ap (λ (k : ℕ). take k es) (add-one s) ∙ take-suc es s 0 (omega (arith, f.full)) ∙ ap (λ (e : ℕ). take s es ++ (e ∷ [])) clean_here in
      record {
        below = omega arith;
        full = f.full;
        room = omega (arith, f.room, ap (λ (k : ℕ). width * ones_in k bits) one_more, ap (λ (k : ℕ). width * k) (ones_even bits n z));
        so_far = next es 0 at here (left_even bs width at bits n z);
        clean = clean_next;
      }

  pub filled_odd : bits % 2 ≡ 1 → Filled bs width start mask (set es s (number_at bs at width)) (bits / 2) (at + width) (s + 1)
  unfolding n
  filled_odd o =
      let e = number_at bs at width in
      let here : take (s + 1) (set es s (number_at bs at width)) ≡ take s es ++ (number_at bs at width ∷ []) =
      ap (λ (k : ℕ). take k (set es s e)) (add-one s) ∙ take-suc-set es s e (omega (arith, f.full)) in
      record {
        below = omega arith;
        full = rw length-set f.full;
        room = room_odd o;
        so_far = next (set es s e) e (at + width) here (left_odd bs width at bits n o);
        clean = drop-set-lt (s + 1) es s e (omega arith) ∙ clean_next;
      }
