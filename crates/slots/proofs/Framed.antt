-- Laws of `framed` and `frame_at`: the frame in a slot. Assumes nothing.
use mathlib.Core.Path.{◌≡◌, ap, ◌∙◌}
use mathlib.Core.List.{List, []}
use Prim.Native.Nat.{ℕ, ◌+◌, ◌*◌, ◌≤◌, ◌<◌}
use native.Mathlib.Nat.{lt_of_not-le, le_of_suc-le-suc}
use native.Mathlib.Omega.{arith}
use lib.ListN.{length, take, drop}
use lib.Seq.{drop-drop, drop_at, take-add, length-take-le}
use borrow.Author.Tests.{le-ltb, lt-ltb}
use Rattle.numbers.specs.Numbers.{number_at}
use Rattle.numbers.proofs.NumberAt.{number_at_drop}
use Rattle.frame.proofs.Passed.{zero_passed}
use Rattle.rules.specs.Sizes.{width, buffer_length}
use Rattle.slots.specs.Slots.{slot_length, framed, frame_at, Reads, length_at, Fits}

-- ---- by the length that stands before the frame

pub framed_long : (bs : List ℕ) → buffer_length < number_at bs 0 2 → framed bs ≡ []
unfolding framed
framed_long bs h = rw (lt-ltb buffer_length (number_at bs 0 2) h)

pub framed_short : (bs : List ℕ) → number_at bs 0 2 ≤ buffer_length → framed bs ≡ take (number_at bs 0 2) (drop 2 bs)
unfolding framed
framed_short bs h = rw (le-ltb buffer_length (number_at bs 0 2) h)

pub frame_at_long : (slots : List ℕ) (slot : ℕ) → buffer_length < length_at slots slot → frame_at slots slot ≡ []
unfolding frame_at
frame_at_long slots slot h = framed_long (drop (slot * slot_length) slots) (rw (← number_at_drop slots (slot * slot_length) 2) h)

pub frame_at_short : (slots : List ℕ) (slot : ℕ) → Fits slots slot
    → frame_at slots slot ≡ take (length_at slots slot) (drop (slot * slot_length + 2) slots)
unfolding frame_at
frame_at_short slots slot h =
    let at = slot * slot_length in
    let same = number_at_drop slots at 2 in
    framed_short (drop at slots) (rw (← same) h) ∙ rw (← same, drop-drop 2 at slots)

-- a slot has room for a readable frame
pub reads_fits : (slots : List ℕ) (slot : ℕ) → Reads (frame_at slots slot) → Fits slots slot
reads_fits slots slot reads = le_of_suc-le-suc (lt_of_not-le (λ (long : buffer_length < length_at slots slot). too_short long))
  where
    too_short : buffer_length < length_at slots slot → ⊥
    too_short long = omega (arith, ap length (frame_at_long slots slot long), (zero_passed width (frame_at slots slot) reads).long)

-- ---- a part of the first so many

pub drop-take : (n k : ℕ) (l : List ℕ) → n ≤ length l → drop n (take (n + k) l) ≡ take k (drop n l)
drop-take n k l le = rw (take-add n k l) (drop_at (take n l) (take k (drop n l)) n (length-take-le n l le))
