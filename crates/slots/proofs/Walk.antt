-- A walk over the entries of a frame, from set bit to set bit of its mask: the panel of each entry, and where it stands. Assumes nothing.
use mathlib.Core.Path.{◌≡◌, refl, sym, ap, ◌∙◌}
use mathlib.Core.Logic.{by_cases}
use mathlib.Core.List.{List}
use Prim.Native.Nat.{ℕ, zero, suc, ◌+◌, ◌-◌, ◌*◌, ◌/◌, ◌%◌, ◌^◌, ◌≤◌, ◌<◌}
use native.Mathlib.Nat.{div-one, zero-div, mul-one, zero-mul, one-mul}
use native.Mathlib.Decide.{dec_lt}
use native.Mathlib.Omega.{arith}
use lib.ListN.{length, get_or, get_or-eq_default}
use lib.Pow.{shl-shr, shr-shr}
use lib.Count.{ones_in}
use lib.Bits.{bit_and}
use Rattle.numbers.specs.Numbers.{number_at}
use Rattle.numbers.proofs.NumberAt.{get_or-numbers_at}
use Rattle.numbers.proofs.Ones.{ones_in_zero}
use Rattle.frame.specs.Reading.{mask_in, count_in, entries_in, message_in}
use Rattle.frame.proofs.Entries.{length-by_panel}
use Rattle.frame.proofs.Passed.{zero_passed}
use Rattle.frame.proofs.Panels.{div-half, get_or-by_panel, ones_in_lt}
use Rattle.rules.specs.Sizes.{width}
use Rattle.slots.specs.Slots.{Reads}
use Rattle.slots.proofs.SetBits.{from, next, More, step, next-step, next_unset, next-set, next-lt, next_rest, ones_in_add, ones_in_next, ones_in_after}

-- ---- the entry of a panel

-- the number that the message has for it, 0 where it has no entry
abbrev pub entry_of : List ℕ → ℕ → ℕ
entry_of bs panel = get_or (message_in width bs).entries panel 0

pub length_entries : (bs : List ℕ) → length (message_in width bs).entries ≡ 64
unfolding message_in
length_entries bs = length-by_panel 64 (mask_in width bs) (entries_in width bs)

-- its place in the bytes, behind those of the panels below it
abbrev place_of : List ℕ → ℕ → ℕ
place_of bs panel = 14 + width + width * ones_in panel (mask_in width bs)

module _ (bs : List ℕ) (panel : ℕ) where
  entry_set : panel < 64 → mask_in width bs / 2 ^ panel % 2 ≡ 1 → entry_of bs panel ≡ number_at bs (place_of bs panel) width
  unfolding message_in
  entry_set below o =
      let here = get_or-numbers_at bs (14 + width) width (count_in width bs) (ones_in panel (mask_in width bs)) (ones_in_lt 64 (mask_in width bs) panel below o) in
      rw (get_or-by_panel 64 (mask_in width bs) (entries_in width bs) panel below, o, one-mul, here)

  -- past the last panel there is none
  entry_unset : mask_in width bs / 2 ^ panel % 2 ≡ 0 → entry_of bs panel ≡ 0
  unfolding message_in
  entry_unset z =
      by_cases (dec_lt panel 64) (λ below. get_or-by_panel 64 (mask_in width bs) (entries_in width bs) panel below ∙ rw (z, zero-mul))
      (λ past. get_or-eq_default (message_in width bs).entries 0 {n = panel} (omega (arith, past, length_entries bs)))

-- among bits of which none is set
bit_unset : (n bits k : ℕ) → ones_in n bits ≡ 0 → k < n → bits / 2 ^ k % 2 ≡ 0
unfolding ones_in
bit_unset zero bits k none lt = absurd (omega arith)
bit_unset (suc n) bits zero none lt = rw div-one (omega arith)
bit_unset (suc n) bits (suc k) none lt = rw (← div-half bits k) (bit_unset n (bits / 2) k (omega arith) (omega arith))

-- ---- the walk

-- The bits are those of the panels from one on, and the entries of the panels below it were passed.
pub record Walk (bs : List ℕ) (bits passed : ℕ) : Type 0 where
  pub panel : ℕ
  pub few : panel ≤ 64
  pub fits : mask_in width bs < 2 ^ 64
  pub rest : bits ≡ from panel (mask_in width bs)
  pub seen : passed ≡ ones_in panel (mask_in width bs)

pub ones_in_none : (mask : ℕ) → 0 ≡ ones_in 0 mask
unfolding ones_in
ones_in_none mask = refl

abbrev pub walk_start : (bs : List ℕ) → mask_in width bs < 2 ^ 64 → Walk bs (mask_in width bs) 0
walk_start bs fits = record { panel = 0; few = omega arith; fits = fits; rest = rw (div-one, mul-one); seen = ones_in_none (mask_in width bs) }

-- panels whose bits are not set have no entry
skipped : (bs : List ℕ) (panel n : ℕ) → ones_in n (mask_in width bs / 2 ^ panel) ≡ 0 → (k : ℕ) → panel ≤ k → k < panel + n → entry_of bs k ≡ 0
skipped bs panel n none k above lt =
    let place : panel + (k - panel) ≡ k = omega arith in
    entry_unset bs k
    (ap (λ (j : ℕ). mask_in width bs / 2 ^ j % 2) (sym place)
    ∙ ap (λ (j : ℕ). j % 2) (sym (shr-shr (mask_in width bs) panel (k - panel)))
    ∙ bit_unset n (mask_in width bs / 2 ^ panel) (k - panel) none (omega arith))

-- no bit is left
module _ {bs : List ℕ} {bits passed : ℕ} (w : Walk bs bits passed) (none : bits ≡ 0) where
  left-none : mask_in width bs / 2 ^ w.panel ≡ 0
  left-none =
      sym (shl-shr (mask_in width bs / 2 ^ w.panel) w.panel) ∙ ap (λ (n : ℕ). n / 2 ^ w.panel) (sym w.rest ∙ none) ∙ zero-div (2 ^ w.panel)

  left_unset : (n : ℕ) → ones_in n (mask_in width bs / 2 ^ w.panel) ≡ 0
  left_unset n = rw left-none (ones_in_zero n)

  -- no panel from there on has an entry
  pub end_none : (k : ℕ) → w.panel ≤ k → entry_of bs k ≡ 0
  end_none k above = skipped bs w.panel (suc k) (left_unset (suc k)) k above (omega arith)

  -- all were passed
  pub end_passed : passed ≡ ones_in 64 (mask_in width bs)
  end_passed =
      let whole : 64 ≡ w.panel + (64 - w.panel) = omega (arith, w.few) in
      let ones = ap (λ (n : ℕ). ones_in n (mask_in width bs)) whole ∙ ones_in_add w.panel (64 - w.panel) (mask_in width bs) in
      omega (arith, w.seen, ones, left_unset (64 - w.panel))

-- a turn, to the next panel whose bit is set
module _ {bs : List ℕ} {bits passed : ℕ} (w : Walk bs bits passed) (some : bits ≡ 0 → ⊥) where
  abbrev mask : ℕ
  mask = mask_in width bs

  abbrev left : More mask w.panel bits
  left = record { few = w.few; fits = w.fits; rest = w.rest; some = some }

  pub turn_lt : next bits < 64
  turn_lt = next-lt left

  pub turn_passed : passed ≡ ones_in (next bits) mask
  turn_passed = omega (arith, w.seen, ones_in_next left)

  -- its entry stands in the frame, behind those that were passed
  pub turn_room : Reads bs → 14 + width + width * passed + width ≤ length bs
  turn_room reads = omega (arith, turn_passed, ones_in_lt 64 mask (next bits) turn_lt (next-set left), (zero_passed width bs reads).room)

  pub turn_entry : entry_of bs (next bits) ≡ number_at bs (14 + width + width * passed) width
  turn_entry = entry_set bs (next bits) turn_lt (next-set left) ∙ ap (λ (n : ℕ). number_at bs (14 + width + width * n) width) (sym turn_passed)

  -- the panels before it have none
  pub turn_above : w.panel ≤ next bits
  turn_above = omega (arith, next-step left)

  pub turn_skips : (k : ℕ) → w.panel ≤ k → k < next bits → entry_of bs k ≡ 0
  turn_skips k above lt = skipped bs w.panel (step left) (next_unset left) k above (omega (arith, next-step left))

  abbrev pub walk_on : Walk bs (bit_and bits (bits - 1)) (passed + 1)
  walk_on =
      record {
        panel = next bits + 1;
        few = omega (arith, turn_lt);
        fits = w.fits;
        rest = next_rest left;
        seen = omega (arith, w.seen, ones_in_after left);
      }
