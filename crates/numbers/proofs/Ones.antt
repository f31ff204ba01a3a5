-- Laws of the count of ones in a mask: at most as many as bits, and one less without the lowest. Assumes nothing.
use mathlib.Core.Path.{◌≡◌, refl, ap, ◌∙◌}
use Prim.Native.Nat.{ℕ, zero, suc, ◌+◌, ◌-◌, ◌*◌, ◌/◌, ◌%◌, ◌^◌, ◌≤◌, ◌<◌}
use native.Mathlib.Nat.{add-zero, zero-min, min-zero, pow-suc}
use native.Mathlib.Omega.{arith}
use lib.Count.{ones_in}
use lib.Bits.{bit_and, and_step, and_self}

pub ones_in_le : (n mask : ℕ) → ones_in n mask ≤ n
unfolding ones_in
ones_in_le zero mask = omega arith
ones_in_le (suc n) mask = omega (arith, ones_in_le n (mask / 2))

pub ones_in_zero : (n : ℕ) → ones_in n 0 ≡ 0
unfolding ones_in
ones_in_zero zero = refl
ones_in_zero (suc n) = omega (arith, ones_in_zero n)

-- `bits & (bits - 1)` has one less
pub ones_in_and : (n bits : ℕ) → 0 < bits → bits < 2 ^ n → ones_in n bits ≡ ones_in n (bit_and bits (bits - 1)) + 1
unfolding ones_in
ones_in_and zero bits pos fits = let none : bits < 1 = fits in absurd (omega arith)
ones_in_and (suc n) bits pos fits = go (λ some. ones_in_and n (bits / 2) some (omega (arith, pow-suc 2 n))) (bits % 2) refl
  where
    doubled : (half : ℕ) → bit_and bits (bits - 1) ≡ half * 2 → ones_in (suc n) (bit_and bits (bits - 1)) ≡ ones_in n half
    doubled half e =
        let even : bit_and bits (bits - 1) % 2 ≡ 0 = omega (arith, e) in
        let rest : bit_and bits (bits - 1) / 2 ≡ half = omega (arith, e) in
        omega (arith, even, ap (ones_in n) rest)

    go : (0 < bits / 2 → ones_in n (bits / 2) ≡ ones_in n (bit_and (bits / 2) (bits / 2 - 1)) + 1) → (b : ℕ) → bits % 2 ≡ b
        → ones_in (suc n) bits ≡ ones_in (suc n) (bit_and bits (bits - 1)) + 1
    go ih zero e =
        let half : (bits - 1) / 2 ≡ bits / 2 - 1 = omega arith in
        let step : bit_and bits (bits - 1) ≡ bit_and (bits / 2) (bits / 2 - 1) * 2 = and_step bits (bits - 1) ∙ rw (e, half, zero-min, add-zero) in
        omega (arith, doubled (bit_and (bits / 2) (bits / 2 - 1)) step, ih (omega arith))
    go ih (suc b) e =
        let half : (bits - 1) / 2 ≡ bits / 2 = omega arith in
        let even : (bits - 1) % 2 ≡ 0 = omega arith in
        let step : bit_and bits (bits - 1) ≡ bits / 2 * 2 = and_step bits (bits - 1) ∙ rw (half, even, and_self, min-zero, add-zero) in
        omega (arith, doubled (bits / 2) step)
