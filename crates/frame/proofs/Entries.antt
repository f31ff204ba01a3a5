-- Laws of a message's entries: `mask_of` and `present` take them apart, and `by_panel` puts them together again. Assumes nothing.
use mathlib.Core.Path.{◌≡◌, refl, sym, ap, subst}
use mathlib.Core.Bool.{true}
use mathlib.Core.Logic.{◌⊎◌, inl, inr, ⊎_elim}
use mathlib.Core.List.{List, [], ◌∷◌}
use Prim.Native.Nat.{ℕ, zero, suc, ◌+◌, ◌*◌, ◌/◌, ◌%◌, ◌^◌, ◌≤◌, ◌<◌}
use native.Mathlib.Nat.{pow-suc, zero-add, zero-mul, one-mul, eq-zero-or-pos}
use native.Mathlib.Numerals.{one-add}
use native.Mathlib.Omega.{arith}
use lib.Arith.{lt-one}
use lib.ListN.{length, get_or, drop}
use lib.Seq.{get_or-drop}
use lib.Count.{ones_in, ones, ones_step}
use borrow.Author.Tests.{lt-ltb}
use Rattle.frame.specs.Message.{bit, mask_of, present, by_panel}
use Rattle.frame.specs.Reading.{each_earlier}

-- ---- the count of ones

pub ones_in_ones : (d n : ℕ) → n < 2 ^ d → ones_in d n ≡ ones n
unfolding ones_in ones
ones_in_ones zero n h = rw (lt-one h) refl
ones_in_ones (suc d) n h = rw (ones_in_ones d (n / 2) (omega (arith, pow-suc 2 d))) (sym (ones_step n))

pub bit_cases : (mask : ℕ) → (mask % 2 ≡ 0) ⊎ (mask % 2 ≡ 1)
bit_cases mask = ⊎_elim inl (λ h. inr (omega arith)) (eq-zero-or-pos (mask % 2))

-- ---- the mask

bit_le : (e : ℕ) → bit e ≤ 1
bit_le zero = omega arith
bit_le (suc e) = omega arith

pub mask_of_mod : (e : ℕ) (es : List ℕ) → mask_of (e ∷ es) % 2 ≡ bit e
unfolding mask_of
mask_of_mod e es = omega (arith, bit_le e)

pub mask_of_div : (e : ℕ) (es : List ℕ) → mask_of (e ∷ es) / 2 ≡ mask_of es
unfolding mask_of
mask_of_div e es = omega (arith, bit_le e)

-- each entry comes back to its panel
pub by_panel-present : (es : List ℕ) → by_panel (length es) (mask_of es) (present es) ≡ es
unfolding by_panel present
by_panel-present [] = refl
by_panel-present (zero ∷ es) = rw (mask_of_mod, mask_of_div, zero-mul) (ap (λ (l : List ℕ). 0 ∷ l) (by_panel-present es))
by_panel-present (suc e ∷ es) = rw (mask_of_mod, mask_of_div, one-mul) (ap (λ (l : List ℕ). suc e ∷ l) (by_panel-present es))

pub mask_of_lt : (es : List ℕ) → mask_of es < 2 ^ length es
unfolding mask_of
mask_of_lt [] = omega arith
mask_of_lt (e ∷ es) = omega (arith, bit_le e, mask_of_lt es, pow-suc 2 (length es))

pub ones_in_mask_of : (es : List ℕ) → ones_in (length es) (mask_of es) ≡ length (present es)
unfolding ones_in present
ones_in_mask_of [] = refl
ones_in_mask_of (zero ∷ es) = rw (mask_of_mod, mask_of_div, zero-add) (ones_in_mask_of es)
ones_in_mask_of (suc e ∷ es) = rw (mask_of_mod, mask_of_div, one-add) (ap suc (ones_in_mask_of es))

-- the mask of 64 entries fits 64 bits
pub mask_of_fits : (es : List ℕ) → length es ≡ 64 → mask_of es < 2 ^ 64
mask_of_fits es e = subst (λ (n : ℕ). mask_of es < 2 ^ n) e (mask_of_lt es)

-- no more entries are there than panels
pub present-le : (es : List ℕ) → length (present es) ≤ length es
unfolding present
present-le [] = omega arith
present-le (zero ∷ es) = omega (arith, present-le es)
present-le (suc e ∷ es) = omega (arith, present-le es)

-- ---- apart and together again

pub length-by_panel : (n mask : ℕ) (ws : List ℕ) → length (by_panel n mask ws) ≡ n
unfolding by_panel
length-by_panel zero mask ws = refl
length-by_panel (suc n) mask ws = ap suc (length-by_panel n (mask / 2) (drop (mask % 2) ws))

-- each number is at least 1
abbrev pub Positive : List ℕ → Type 0
Positive ws = (i : ℕ) → i < length ws → 0 < get_or ws i 0

-- the entries that were put together are those that are there, and the mask is theirs
abbrev Apart : ℕ → ℕ → List ℕ → Type 0
Apart n mask ws = (present (by_panel n mask ws) ≡ ws) × (mask_of (by_panel n mask ws) ≡ mask)

apart_even : (n mask : ℕ) (ws : List ℕ) → mask % 2 ≡ 0 → Apart n (mask / 2) ws → Apart (suc n) mask ws
unfolding mask_of by_panel present
apart_even n mask ws z ih = rw (z, zero-mul) (ih.0, omega (arith, ih.1))

apart_odd : (n mask : ℕ) (ws : List ℕ) → mask % 2 ≡ 1 → ones_in (suc n) mask ≡ length ws → Positive ws
    → ((vs : List ℕ) → ones_in n (mask / 2) ≡ length vs → Positive vs → Apart n (mask / 2) vs) → Apart (suc n) mask ws
unfolding mask_of by_panel present ones_in
apart_odd n mask [] o e p ih = absurd (omega arith)
apart_odd n mask (zero ∷ ws) o e p ih = absurd (omega (arith, p 0 (omega arith)))
apart_odd n mask (suc w ∷ ws) o e p ih =
    let r : Apart n (mask / 2) ws = ih ws (omega arith) (λ i h. p (suc i) (omega arith)) in
    rw (o, one-mul) (ap (λ (l : List ℕ). suc w ∷ l) r.0, omega (arith, r.1))

pub present-by_panel : (n mask : ℕ) (ws : List ℕ) → mask < 2 ^ n → ones_in n mask ≡ length ws → Positive ws → Apart n mask ws
unfolding mask_of by_panel present ones_in
present-by_panel zero mask [] h e p = (refl, sym (lt-one h))
present-by_panel zero mask (w ∷ ws) h e p = absurd (omega arith)
present-by_panel (suc n) mask ws h e p =
    let half : mask / 2 < 2 ^ n = omega (arith, pow-suc 2 n) in
    ⊎_elim
    (λ z. apart_even n mask ws z (present-by_panel n (mask / 2) ws half (omega arith) p))
    (λ o. apart_odd n mask ws o e p (λ vs e' p'. present-by_panel n (mask / 2) vs half e' p'))
    (bit_cases mask)

-- ---- entries below a deadline

bit-mul-lt : (mask n limit : ℕ) → 0 < limit → n < limit → mask % 2 * n < limit
bit-mul-lt mask n limit pos h =
    ⊎_elim (λ (z : mask % 2 ≡ 0). rw (z, zero-mul) pos) (λ (o : mask % 2 ≡ 1). rw (o, one-mul) h) (bit_cases mask)

pub by_panel-lt : (limit n mask : ℕ) (ws : List ℕ) → 0 < limit → ((i : ℕ) → get_or ws i 0 < limit) → (s : ℕ) → get_or (by_panel n mask ws) s 0 < limit
unfolding by_panel
by_panel-lt limit zero mask ws pos h s = pos
by_panel-lt limit (suc n) mask ws pos h zero = bit-mul-lt mask (get_or ws 0 0) limit pos (h 0)
by_panel-lt limit (suc n) mask ws pos h (suc s) =
    by_panel-lt limit n (mask / 2) (drop (mask % 2) ws) pos (λ i. rw get_or-drop (h (mask % 2 + i))) s

pub present-lt : (limit : ℕ) (es : List ℕ) → 0 < limit → ((s : ℕ) → get_or es s 0 < limit) → (i : ℕ) → get_or (present es) i 0 < limit
unfolding present
present-lt limit [] pos h i = pos
present-lt limit (zero ∷ es) pos h i = present-lt limit es pos (λ s. h (suc s)) i
present-lt limit (suc e ∷ es) pos h zero = h 0
present-lt limit (suc e ∷ es) pos h (suc i) = present-lt limit es pos (λ s. h (suc s)) i

pub present_earlier : (deadline : ℕ) (es : List ℕ) → ((s : ℕ) → get_or es s 0 < deadline) → each_earlier deadline (present es) ≡ true
unfolding present each_earlier
present_earlier deadline [] h = refl
present_earlier deadline (zero ∷ es) h = present_earlier deadline es (λ s. h (suc s))
present_earlier deadline (suc e ∷ es) h =
    simp (lt-ltb 0 (suc e) (omega arith), lt-ltb (suc e) deadline (h 0), present_earlier deadline es (λ s. h (suc s)))
