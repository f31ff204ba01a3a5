-- A mask from set bit to set bit: the next is at `count_trailing_zeros` of what is left, none before it is counted, and `bits & (bits - 1)` is left
-- behind it. Assumes nothing.
use mathlib.Core.Path.{◌≡◌, refl, sym, ap, ◌∙◌}
use Prim.Native.Nat.{ℕ, zero, suc, ◌+◌, ◌-◌, ◌*◌, ◌/◌, ◌%◌, ◌^◌, ◌≤◌, ◌<◌}
use native.Mathlib.Nat.{div-one, mul-one, mul_assoc, pow-suc, zero-add, suc-add, add-zero, zero-min, min-zero, zero-mul, div-eq_of_lt, lt_of_not-le, lt_of_lt_of_le, lt_of_le_of_lt}
use native.Mathlib.Numerals.{add-one}
use native.Mathlib.Omega.{arith}
use lib.Pow.{shl-shr, shr-shr, shr_lt, pow_mono, split}
use lib.Count.{ones_in, count_trailing_zeros, under}
use lib.Bits.{bit_and, and_step, and_self, shifted_half, shifted_even}
use Rattle.frame.proofs.Panels.{div-half}

-- ---- the lowest set bit

-- no bit below it is set
ones_in_trailing : (k bits : ℕ) → ones_in (count_trailing_zeros k bits) bits ≡ 0
unfolding ones_in count_trailing_zeros
ones_in_trailing zero bits = refl
ones_in_trailing (suc k) bits = go (ones_in_trailing k (bits / 2)) (bits % 2) refl
  where
    go : ones_in (count_trailing_zeros k (bits / 2)) (bits / 2) ≡ 0 → (b : ℕ) → bits % 2 ≡ b → ones_in (under b (count_trailing_zeros k (bits / 2))) bits ≡ 0
    go ih zero e = omega arith
    go ih (suc b) e = refl

bit_trailing : (k bits : ℕ) → 0 < bits → bits < 2 ^ k → bits / 2 ^ count_trailing_zeros k bits % 2 ≡ 1
unfolding count_trailing_zeros
bit_trailing zero bits pos fits = let none : bits < 1 = fits in omega arith
bit_trailing (suc k) bits pos fits = go (λ pos'. bit_trailing k (bits / 2) pos' (shr_lt k 1 (rw add-one fits))) (bits % 2) refl
  where
    go : (0 < bits / 2 → bits / 2 / 2 ^ count_trailing_zeros k (bits / 2) % 2 ≡ 1) → (b : ℕ) → bits % 2 ≡ b
        → bits / 2 ^ under b (count_trailing_zeros k (bits / 2)) % 2 ≡ 1
    go ih zero e = rw (← div-half bits (count_trailing_zeros k (bits / 2))) (ih (omega arith))
    go ih (suc b) e = rw div-one (omega arith)

-- bits moved up take it along
trailing_shifted : (k n bits : ℕ) → count_trailing_zeros (n + k) (bits * 2 ^ n) ≡ n + count_trailing_zeros k bits
unfolding count_trailing_zeros
trailing_shifted k zero bits = rw (mul-one, zero-add k, zero-add)
trailing_shifted k (suc n) bits = rw (suc-add n k, suc-add n (count_trailing_zeros k bits), shifted_even bits n, shifted_half bits n) (ap suc (trailing_shifted k n bits))

-- the bits from a place on, where they stand
abbrev pub from : ℕ → ℕ → ℕ
from place bits = bits / 2 ^ place * 2 ^ place

from-half : (place bits : ℕ) → from place (bits / 2) * 2 ≡ from (suc place) bits
from-half place bits =
    ap (λ (n : ℕ). n * 2 ^ place * 2) (div-half bits place)
    ∙ mul_assoc (bits / 2 ^ suc place) (2 ^ place) 2
    ∙ ap (λ (n : ℕ). bits / 2 ^ suc place * n) (sym (pow-suc 2 place))

-- `bits & (bits - 1)` are the bits behind it
and_trailing : (k bits : ℕ) → 0 < bits → bits < 2 ^ k → bit_and bits (bits - 1) ≡ from (suc (count_trailing_zeros k bits)) bits
unfolding count_trailing_zeros
and_trailing zero bits pos fits = let none : bits < 1 = fits in absurd (omega arith)
and_trailing (suc k) bits pos fits = go (λ pos'. and_trailing k (bits / 2) pos' (shr_lt k 1 (rw add-one fits))) (bits % 2) refl
  where
    go : (0 < bits / 2 → bit_and (bits / 2) (bits / 2 - 1) ≡ from (suc (count_trailing_zeros k (bits / 2))) (bits / 2)) → (b : ℕ) → bits % 2 ≡ b
        → bit_and bits (bits - 1) ≡ from (suc (under b (count_trailing_zeros k (bits / 2)))) bits
    go ih zero e =
        let half : (bits - 1) / 2 ≡ bits / 2 - 1 = omega arith in
        and_step bits (bits - 1)
        ∙ rw (e, half, ih (omega arith), zero-min, add-zero) (from-half (suc (count_trailing_zeros k (bits / 2))) bits)
    go ih (suc b) e =
        let half : (bits - 1) / 2 ≡ bits / 2 = omega arith in
        let even : (bits - 1) % 2 ≡ 0 = omega arith in
        and_step bits (bits - 1) ∙ rw (half, even, and_self, min-zero, add-zero)

-- ---- the ones of a mask

pub ones_in_add : (n more mask : ℕ) → ones_in (n + more) mask ≡ ones_in n mask + ones_in more (mask / 2 ^ n)
unfolding ones_in
ones_in_add zero more mask = rw (div-one, zero-add more, zero-add)
ones_in_add (suc n) more mask = rw suc-add (omega (arith, ones_in_add n more (mask / 2), ap (ones_in more) (div-half mask n)))

-- ---- the bits of a mask from panel on, of which some are set

-- the next panel whose bit is set
abbrev pub next : ℕ → ℕ
next bits = count_trailing_zeros 64 bits

pub record More (mask panel bits : ℕ) : Type 0 where
  pub few : panel ≤ 64
  pub fits : mask < 2 ^ 64
  pub rest : bits ≡ from panel mask
  pub some : bits ≡ 0 → ⊥

module _ {mask panel bits : ℕ} (more : More mask panel bits) where
  abbrev left : ℕ
  left = mask / 2 ^ panel

  -- how far it is
  abbrev pub step : ℕ
  step = count_trailing_zeros (64 - panel) left

  pub next-step : next bits ≡ panel + step
  next-step =
      let whole : 64 ≡ panel + (64 - panel) = omega (arith, more.few) in
      ap (count_trailing_zeros 64) more.rest ∙ ap (λ (k : ℕ). count_trailing_zeros k (left * 2 ^ panel)) whole ∙ trailing_shifted (64 - panel) panel left

  left-some : left ≡ 0 → ⊥
  left-some e = more.some (more.rest ∙ rw (e, zero-mul))

  left_fits : left < 2 ^ (64 - panel)
  left_fits =
      let whole : 64 ≡ 64 - panel + panel = omega (arith, more.few) in
      shr_lt (64 - panel) panel (rw (← whole) more.fits)

  pub next_unset : ones_in step left ≡ 0
  next_unset = ones_in_trailing (64 - panel) left

  pub next-set : mask / 2 ^ next bits % 2 ≡ 1
  next-set = rw (next-step, ← shr-shr mask panel step) (bit_trailing (64 - panel) left (omega (arith, left-some)) left_fits)

  pub next-lt : next bits < 64
  next-lt = lt_of_not-le (λ (le : 64 ≤ next bits). none (div-eq_of_lt (lt_of_lt_of_le more.fits (pow_mono le))))
    where
      none : mask / 2 ^ next bits ≡ 0 → ⊥
      none e = omega (arith, next-set)

  -- from there on the bits are those of the mask
  next_same : bits / 2 ^ (next bits + 1) ≡ mask / 2 ^ (next bits + 1)
  next_same =
      let place : next bits + 1 ≡ panel + (step + 1) = omega (arith, next-step) in
      rw (place, ← shr-shr bits panel (step + 1), ← shr-shr mask panel (step + 1))
      (ap (λ (n : ℕ). n / 2 ^ (step + 1)) (ap (λ (n : ℕ). n / 2 ^ panel) more.rest ∙ shl-shr left panel))

  pub next_rest : bit_and bits (bits - 1) ≡ from (next bits + 1) mask
  next_rest =
      let small : bits < 2 ^ 64 = lt_of_le_of_lt (omega (arith, more.rest, split mask panel)) more.fits in
      and_trailing 64 bits (omega (arith, more.some)) small
      ∙ ap (λ (place : ℕ). from place bits) (sym (add-one (next bits)))
      ∙ ap (λ (n : ℕ). n * 2 ^ (next bits + 1)) next_same

  pub ones_in_next : ones_in (next bits) mask ≡ ones_in panel mask
  ones_in_next = rw next-step (omega (arith, ones_in_add panel step mask, next_unset))

  pub ones_in_after : ones_in (next bits + 1) mask ≡ ones_in panel mask + 1
  unfolding ones_in
  ones_in_after = omega (arith, ones_in_add (next bits) 1 mask, next-set, ones_in_next)
