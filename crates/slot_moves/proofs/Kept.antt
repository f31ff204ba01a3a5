-- Slots whose first so many hold readable frames, after frames have moved up or one was put behind the others. Assumes nothing.
use mathlib.Core.Path.{◌≡◌, refl, sym, ap, ◌∙◌}
use mathlib.Core.List.{List, [], ◌∷◌, ◌++◌}
use Prim.Native.Nat.{ℕ, suc, ◌+◌, ◌*◌, ◌≤◌, ◌<◌}
use borrow.Author.Count.{below_more}
use native.Mathlib.Omega.{arith}
use lib.ListN.{length, take, length-append}
use lib.Seq.{length-take-le, get_or-take}
use Rattle.numbers.specs.Numbers.{big_endian}
use Rattle.numbers.specs.Buffer.{over}
use Rattle.numbers.proofs.BigEndian.{length-big_endian}
use Rattle.numbers.proofs.NumberAt.{number_at_big_endian}
use Rattle.numbers.proofs.Over.{length_over}
use Rattle.rules.specs.Sizes.{buffer_length}
use Rattle.slots.specs.Slots.{slot_length, Slots, Reads, Kept, frame_at, carried, held, first_slots}
use Rattle.slots.proofs.Framed.{reads_fits}
use Rattle.slots.proofs.Held.{get_or_up_from, length_up_from, held-suc, held_same}
use Rattle.slot_moves.specs.Moves.{Gathered}
use Rattle.slot_moves.proofs.Writing.{frame_at_before, frame_at_here, framed-frame}

-- ---- frames that have moved up

pub held_gathered : (before places : List ℕ) (count : ℕ) (after : List ℕ) → count ≤ length places → Gathered before places count after
    → held after (first_slots count) ≡ held before (take count places)
held_gathered before places count after room gathered =
    let size = length-take-le count places room in
    ap (λ (n : ℕ). held after (first_slots n)) (sym size)
    ∙ held_same before after (take count places) 0
    (λ k lt.
    let below : k < count = omega (arith, size) in
    let z : 0 + k ≡ k = omega arith in
    ap (frame_at after) z ∙ gathered.frames k below ∙ ap (frame_at before) (sym (get_or-take count places k 0 below)))

-- ---- a frame put behind the others

module _ (slots : List ℕ) (count : ℕ) (frame : List ℕ) (size : Slots slots) (kept : Kept slots count) (room : count < 32)
    (short : length frame ≤ buffer_length) where
  bs : List ℕ
  bs = big_endian 2 (length frame) ++ frame

  length_bs : length bs ≡ 2 + length frame
  unfolding bs
  length_bs = rw (length-append, length-big_endian)

  fits : count * slot_length + length bs ≤ length slots
  fits = omega (arith, length_bs)

  -- the slots with the frame
  abbrev pub with_frame : List ℕ
  with_frame = over slots (count * slot_length) (big_endian 2 (length frame) ++ frame)

  frame_at_new : frame_at with_frame count ≡ frame
  unfolding bs
  frame_at_new =
      frame_at_here slots (count * slot_length) bs fits count refl
      (omega (arith, length_bs, number_at_big_endian 2 (length frame) frame (omega arith)))
      ∙ framed-frame frame short

  frame_at_old : (k : ℕ) → k < count → frame_at with_frame k ≡ frame_at slots k
  unfolding bs
  frame_at_old k lt = frame_at_before slots (count * slot_length) bs fits k (omega arith) (reads_fits slots k (kept.reads k lt))

  pub slots_put : Slots with_frame
  unfolding bs
  slots_put = length_over slots (count * slot_length) bs fits ∙ size

  held_old : held with_frame (first_slots count) ≡ held slots (first_slots count)
  held_old =
      let size-places = length_up_from 0 count in
      ap (λ (n : ℕ). held with_frame (first_slots n)) (sym size-places)
      ∙ held_same slots with_frame (first_slots count) 0
      (λ k lt.
      let below : k < count = omega (arith, size-places) in
      let z : 0 + k ≡ k = omega arith in
      ap (frame_at with_frame) z ∙ frame_at_old k below ∙ ap (frame_at slots) (sym (get_or_up_from 0 count k below ∙ z)))

  pub held_put : held with_frame (first_slots (suc count)) ≡ held slots (first_slots count) ++ (carried frame ∷ [])
  held_put = held-suc with_frame count ∙ rw (frame_at_new, held_old)

  pub kept_put : Reads frame → Kept with_frame (suc count)
  kept_put reads =
      record {
        few = omega arith;
        reads = λ k lt.
            below_more (λ k. Reads (frame_at with_frame k)) count (λ k l. rw (frame_at_old k l) (kept.reads k l)) (rw frame_at_new reads) k (omega arith);
      }
