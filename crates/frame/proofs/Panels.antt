-- The bit and the entry of one panel: `mask_of` and `by_panel` at a place. Assumes nothing.
use mathlib.Core.Path.{◌≡◌, ◌∙◌}
use mathlib.Core.List.{List, [], ◌∷◌}
use Prim.Native.Nat.{ℕ, zero, suc, ◌*◌, ◌/◌, ◌%◌, ◌^◌, ◌<◌}
use native.Mathlib.Nat.{mul_comm, zero-div, div-div-eq-div-mul, div-one, pow-suc}
use native.Mathlib.Omega.{arith}
use lib.ListN.{get_or, drop}
use lib.Seq.{get_or-drop}
use lib.Count.{ones_in}
use Rattle.frame.specs.Message.{bit, mask_of, by_panel}
use Rattle.frame.proofs.Entries.{mask_of_mod, mask_of_div}

pub div-half : (n s : ℕ) → n / 2 / 2 ^ s ≡ n / 2 ^ suc s
div-half n s = rw (div-div-eq-div-mul, pow-suc, mul_comm (2 ^ s) 2)

pub bit_mask_of : (es : List ℕ) (s : ℕ) → mask_of es / 2 ^ s % 2 ≡ bit (get_or es s 0)
unfolding mask_of
bit_mask_of [] s = rw zero-div
bit_mask_of (e ∷ es) zero = omega (arith, mask_of_mod e es)
bit_mask_of (e ∷ es) (suc s) = rw (← div-half, mask_of_div) (bit_mask_of es s)

pub get_or-by_panel : (n mask : ℕ) (ws : List ℕ) (s : ℕ) → s < n → get_or (by_panel n mask ws) s 0 ≡ mask / 2 ^ s % 2 * get_or ws (ones_in s mask) 0
unfolding by_panel ones_in
get_or-by_panel zero mask ws s h = absurd (omega arith)
get_or-by_panel (suc n) mask ws zero h = rw div-one
get_or-by_panel (suc n) mask ws (suc s) h = get_or-by_panel n (mask / 2) (drop (mask % 2) ws) s (omega arith) ∙ rw (div-half, get_or-drop)

-- the ones below a set bit are fewer than all
pub ones_in_lt : (n mask s : ℕ) → s < n → mask / 2 ^ s % 2 ≡ 1 → ones_in s mask < ones_in n mask
unfolding ones_in
ones_in_lt zero mask s h o = absurd (omega arith)
ones_in_lt (suc n) mask zero h o = let e : mask % 2 ≡ 1 = rw div-one at o in omega arith
ones_in_lt (suc n) mask (suc s) h o = omega (arith, ones_in_lt n (mask / 2) s (omega arith) (rw div-half o))
