-- Laws of a message's entries, as the loops of writing go through them: the mask from the highest panel down, and those that are there from the
-- lowest up. Assumes nothing.
use mathlib.Core.Path.{◌≡◌, refl, sym, ap, ◌∙◌, subst}
use mathlib.Core.List.{List, [], ◌∷◌, ◌++◌, append-nil}
use Prim.Native.Nat.{ℕ, zero, suc, ◌+◌, ◌-◌, ◌*◌, ◌^◌, ◌≤◌, ◌<◌}
use native.Mathlib.Numerals.{add-one, sub-one}
use native.Mathlib.Omega.{arith}
use lib.ListN.{length, get_or, take, drop, length-append, length-drop, take-append-drop, drop_of_length-le}
use lib.Pow.{pow_mono}
use lib.Seq.{take-suc, drop-cons}
use lib.Count.{ones_in, ones}
use lib.Dec.{eqb}
use mathlib.Core.Bool.{not}
use mir.Val.{bool_byte}
use borrow.Author.Tests.{ne_eqb}
use Rattle.frame.specs.Message.{bit, mask_of, present}
use Rattle.frame.proofs.Entries.{ones_in_ones, mask_of_lt, mask_of_fits, ones_in_mask_of}

-- the ones in the mask of 64 entries count those that are there
pub ones_mask_of : (es : List ℕ) → length es ≡ 64 → ones (mask_of es) ≡ length (present es)
ones_mask_of es e =
    sym (ones_in_ones 64 (mask_of es) (mask_of_fits es e))
    ∙ subst (λ (n : ℕ). ones_in n (mask_of es) ≡ length (present es)) e (ones_in_mask_of es)

-- ---- the mask of the entries from s on, as a loop goes down

-- the bit as code has it
pub bit_byte : (e : ℕ) → (bool_byte (not (eqb e 0)) ≡ bit e) × (bit e ≤ 1)
bit_byte zero = (refl, omega arith)
bit_byte (suc e) = (rw (ne_eqb (suc e) 0 (λ none. absurd (omega arith))) refl, omega arith)

pub mask_of_none : (es : List ℕ) (s : ℕ) → length es ≤ s → mask_of (drop s es) ≡ 0
unfolding mask_of
mask_of_none es s h = rw (drop_of_length-le es h)

pub mask_of_drop : (es : List ℕ) (s : ℕ) → 0 < s → s ≤ length es → mask_of (drop (s - 1) es) ≡ bit (get_or es (s - 1) 0) + 2 * mask_of (drop s es)
unfolding mask_of
mask_of_drop es zero pos h = absurd (omega arith)
mask_of_drop es (suc s) pos h = rw (sub-one, drop-cons es s 0 h)

module _ (es : List ℕ) (s : ℕ) (pos : 0 < s) (h : s ≤ length es) where
  -- one bit more still fits 64 bits
  pub mask_of_drop_lt : length es ≡ 64 → mask_of (drop s es) * 2 + 1 < 2 ^ 64
  mask_of_drop_lt e =
      let l : length (drop s es) ≤ 63 = rw length-drop (omega arith) in omega (arith, mask_of_lt (drop s es), pow_mono l)

-- ---- those that are there among the first, as a loop goes up

pub present-append : (xs ys : List ℕ) → present (xs ++ ys) ≡ present xs ++ present ys
unfolding present
present-append [] ys = refl
present-append (zero ∷ xs) ys = present-append xs ys
present-append (suc x ∷ xs) ys = ap (λ (l : List ℕ). suc x ∷ l) (present-append xs ys)

present-one : (e : ℕ) → (e ≡ 0 → present (e ∷ []) ≡ []) × ((e ≡ 0 → ⊥) → present (e ∷ []) ≡ e ∷ [])
unfolding present
present-one zero = (λ h. refl, λ h. absurd (h refl))
present-one (suc e) = (λ h. absurd (omega arith), λ h. refl)

module _ (es : List ℕ) (s : ℕ) (l : s < length es) where
  pub present-take-none : get_or es s 0 ≡ 0 → present (take (s + 1) es) ≡ present (take s es)
  present-take-none z = rw (add-one, take-suc es s 0 l, present-append, (present-one (get_or es s 0)).0 z) (append-nil (present (take s es)))

  pub present_take_entry : (get_or es s 0 ≡ 0 → ⊥) → present (take (s + 1) es) ≡ present (take s es) ++ (get_or es s 0 ∷ [])
  present_take_entry z = rw (add-one, take-suc es s 0 l, present-append, (present-one (get_or es s 0)).1 z)

pub present-take-le : (es : List ℕ) (s : ℕ) → length (present (take s es)) ≤ length (present es)
present-take-le es s =
    omega (
      arith,
      length-append (present (take s es)) (present (drop s es)),
      ap length (present-append (take s es) (drop s es)),
      ap (λ (l : List ℕ). length (present l)) (take-append-drop s es),
    )

-- as many as there are in all are all
pub present_take_all : (es : List ℕ) (s : ℕ) → length (present es) ≤ length (present (take s es)) → present (take s es) ≡ present es
present_take_all es s le = go (present (drop s es)) whole
  where
    whole : present (take s es) ++ present (drop s es) ≡ present es
    whole = sym (present-append (take s es) (drop s es)) ∙ ap present (take-append-drop s es)

    go : (rest : List ℕ) → present (take s es) ++ rest ≡ present es → present (take s es) ≡ present es
    go [] e = sym (append-nil (present (take s es))) ∙ e
    go (e ∷ rest) more = absurd (omega (arith, ap length more, length-append (present (take s es)) (e ∷ rest)))
