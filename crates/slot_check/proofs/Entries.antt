-- The entries of the frame in a slot, as a loop reads them that takes the mask's bits off one by one. Assumes nothing.
use mathlib.Core.Path.{◌≡◌, sym, ap, ◌∙◌}
use mathlib.Core.Bool.{true, false, true≢false}
use mathlib.Core.List.{List}
use Prim.Native.Nat.{ℕ, ◌+◌, ◌-◌, ◌*◌, ◌^◌, ◌≤◌, ◌<◌}
use native.Mathlib.Omega.{arith}
use lib.Bits.{bit_and, and_le_r}
use lib.Count.{ones_in}
use Rattle.numbers.specs.Numbers.{number_at, numbers_at}
use Rattle.numbers.proofs.Ones.{ones_in_le, ones_in_zero, ones_in_and}
use Rattle.frame.specs.Reading.{each_earlier}
use Rattle.frame.proofs.EachNumber.{each_earlier-none, each_earlier-zero, each_earlier_late, each_earlier-next}
use Rattle.rules.specs.Sizes.{width}
use Rattle.slot_check.proofs.InSlot.{deadline_of, count_of, Holds}

-- whether all entries pass
abbrev pub all_pass : List ℕ → ℕ → Type 0
all_pass bs deadline = each_earlier deadline (numbers_at bs (16 + width) width (count_of bs)) ≡ true

abbrev pub one_fails : List ℕ → ℕ → Type 0
one_fails bs deadline = each_earlier deadline (numbers_at bs (16 + width) width (count_of bs)) ≡ false

-- as many entries are left as bits, and they decide whether all pass
pub record Left (bs : List ℕ) (deadline bits at : ℕ) : Type 0 where
  pub fits : bits < 2 ^ 64
  pub place : at + width * ones_in 64 bits ≡ 16 + width + width * count_of bs
  pub decide : each_earlier deadline (numbers_at bs (16 + width) width (count_of bs)) ≡ each_earlier deadline (numbers_at bs at width (ones_in 64 bits))

pub fails_unheld : (bs : List ℕ) (deadline : ℕ) → deadline ≡ deadline_of bs → one_fails bs deadline → Holds bs → ⊥
fails_unheld bs deadline is fails h = true≢false (sym h.entries ∙ rw (← is) fails)

module _ (bs : List ℕ) (deadline bits at : ℕ) (left : Left bs deadline bits at) where
  -- they stand in the room for 64
  pub left_within : at + width * ones_in 64 bits ≤ 16 + width + width * 64
  left_within = omega (arith, left.place, ones_in_le 64 (number_at bs (8 + width) 8))

  -- an entry is left
  module _ (some : 0 < bits) where
    one : ones_in 64 bits ≡ ones_in 64 (bit_and bits (bits - 1)) + 1
    one = ones_in_and 64 bits some left.fits

    pub entry_within : at + width ≤ 16 + width + width * 64
    entry_within = omega (arith, left_within, one)

    module _ (entry : ℕ) (read : entry ≡ number_at bs at width) where
      pub zero_fails : entry ≡ 0 → one_fails bs deadline
      zero_fails none = left.decide ∙ each_earlier-zero deadline bs at width _ (omega (arith, one)) (sym read ∙ none)

      pub late_fails : deadline ≤ entry → one_fails bs deadline
      late_fails late = left.decide ∙ each_earlier_late deadline bs at width _ (omega (arith, one)) (omega arith)

      pub entry_passes : 0 < entry → entry < deadline → Left bs deadline (bit_and bits (bits - 1)) (at + width)
      entry_passes pos early =
          let rest : ones_in 64 bits - 1 ≡ ones_in 64 (bit_and bits (bits - 1)) = omega (arith, one) in
          record {
            fits = omega (arith, and_le_r bits (bits - 1), left.fits);
            place = omega (arith, one, left.place);
            decide =
                left.decide
                ∙ each_earlier-next deadline bs at width _ (omega (arith, one)) (omega arith) (omega arith)
                ∙ ap (λ (n : ℕ). each_earlier deadline (numbers_at bs (at + width) width n)) rest;
          }

  -- none is left
  module _ (none : bits ≡ 0) where
    no_ones : ones_in 64 bits ≡ 0
    no_ones = ap (ones_in 64) none ∙ ones_in_zero 64

    pub ended : at ≡ 16 + width + width * count_of bs
    ended = omega (arith, left.place, no_ones)

    pub all_passed : all_pass bs deadline
    all_passed = left.decide ∙ each_earlier-none deadline bs at width _ (omega (arith, no_ones))
