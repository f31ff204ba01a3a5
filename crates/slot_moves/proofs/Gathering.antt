-- Frames that move up to the first slots. Assumes nothing.
use mathlib.Core.Path.{◌≡◌, refl, sym, ap, ◌∙◌}
use mathlib.Core.List.{List}
use Prim.Native.Nat.{ℕ, ◌+◌, ◌*◌, ◌≤◌, ◌<◌}
use borrow.Author.Count.{below_more}
use native.Mathlib.Omega.{arith}
use lib.ListN.{length, get_or, take, drop, length-take, length-drop}
use lib.Seq.{length-take-le, get_or-take}
use Rattle.numbers.specs.Numbers.{number_at}
use Rattle.numbers.specs.Buffer.{over}
use Rattle.numbers.proofs.NumberAt.{number_at_drop}
use Rattle.numbers.proofs.Over.{length_over}
use Rattle.rules.specs.Sizes.{buffer_length}
use Rattle.slots.specs.Slots.{slot_length, slots_length, Slots, Reads, Listed, frame_at, length_at}
use Rattle.slots.proofs.Framed.{reads_fits}
use Rattle.slot_moves.proofs.Writing.{number_at_take, frame_at_before, frame_at_behind, frame_at_here, framed_slot}

-- the first slots hold the frames of the places, and the others their own
pub record Moving (before places : List ℕ) (slot : ℕ) (slots : List ℕ) : Type 0 where
  pub moved : (k : ℕ) → k < slot → frame_at slots k ≡ frame_at before (get_or places k 0)
  pub others : (k : ℕ) → slot ≤ k → frame_at slots k ≡ frame_at before k
  pub size : Slots slots

pub moving_none : (before places : List ℕ) → Slots before → Moving before places 0 before
moving_none before places size = record { moved = λ k lt. absurd (omega arith); others = λ k le. refl; size = size }

-- the frame at the place that is listed next has not moved
module _ (before places : List ℕ) (slot count : ℕ) (slots : List ℕ) (moving : Moving before places slot slots)
    (listed : Listed before count places) (lt : slot < count) where
  pub reads_place : Reads (frame_at slots (get_or places slot 0))
  reads_place = rw (moving.others (get_or places slot 0) (listed.rises slot lt)) (listed.reads slot lt)

-- a turn, at the place that is listed there
module _ (before places : List ℕ) (slot count : ℕ) (slots : List ℕ) (place : ℕ) (moving : Moving before places slot slots)
    (listed : Listed before count places) (turn : slot < length (take count places)) (is : place ≡ get_or (take count places) slot 0) where
  lt : slot < count
  lt = omega (arith, length-take count places)

  place_is : place ≡ get_or places slot 0
  place_is = is ∙ get_or-take count places slot 0 lt

  here : frame_at slots place ≡ frame_at before (get_or places slot 0)
  here = moving.others place (omega (arith, place_is, listed.rises slot lt)) ∙ ap (frame_at before) place_is

  short : length_at slots place ≤ buffer_length
  short = reads_fits slots place (rw here (listed.reads slot lt))

  -- the length and the frame at the place, which has not moved, lie within the slots
  pub place_within : place * slot_length + 2 + length_at slots place ≤ slots_length
  place_within = omega (arith, place_is, listed.below slot lt, short)

  one_more : (after : List ℕ) → Slots after → frame_at after slot ≡ frame_at slots place
      → ((k : ℕ) → k < slot → frame_at after k ≡ frame_at slots k) → ((k : ℕ) → slot < k → frame_at after k ≡ frame_at slots k)
      → Moving before places (slot + 1) after
  one_more after size same low high =
      record {
        moved = below_more (λ k. frame_at after k ≡ frame_at before (get_or places k 0)) slot (λ k l. low k l ∙ moving.moved k l) (same ∙ here);
        others = λ k l. high k (omega arith) ∙ moving.others k (omega arith);
        size = size;
      }

  -- a frame in its place already
  pub moving_stays : place ≤ slot → Moving before places (slot + 1) slots
  moving_stays le =
      let same : slot ≡ place = omega (arith, place_is, listed.rises slot lt) in
      one_more slots moving.size (ap (frame_at slots) same) (λ k l. refl) (λ k l. refl)

  -- a frame that moves up
  module _ (size : ℕ) (size_is : size ≡ length_at slots place) where
    abbrev bytes : List ℕ
    bytes = take (2 + size) (drop (place * slot_length) slots)

    pub moving_moves : slot < place → Moving before places (slot + 1) (over slots (slot * slot_length) bytes)
    moving_moves up =
        let from = drop (place * slot_length) slots in
        let within : place * slot_length + (2 + size) ≤ length slots = omega (arith, place_within, moving.size) in
        let length-bytes : length bytes ≡ 2 + size = length-take-le (2 + size) from (rw length-drop (omega arith)) in
        let room : slot * slot_length + length bytes ≤ length slots = omega arith in
        let number : number_at bytes 0 2 ≡ size
        = number_at_take (2 + size) from (omega arith) ∙ sym (number_at_drop slots (place * slot_length) 2) ∙ sym size_is in
        one_more (over slots (slot * slot_length) bytes)
        (length_over slots (slot * slot_length) bytes room ∙ moving.size)
        (frame_at_here slots (slot * slot_length) bytes room slot refl (omega (arith, length-bytes, number))
        ∙ rw size_is (framed_slot slots place (omega (arith, place_within, moving.size))))
        (λ k l.
        let read : Reads (frame_at slots k) = rw (moving.moved k l) (listed.reads k (omega (arith, lt))) in
        frame_at_before slots (slot * slot_length) bytes room k (omega arith) (reads_fits slots k read))
        (λ k l. frame_at_behind slots (slot * slot_length) bytes room k (omega (arith, length-bytes, short)))
