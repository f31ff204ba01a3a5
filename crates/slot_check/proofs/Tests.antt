-- Laws of the test whether each frame is readable, as a loop over the slots makes it. Assumes nothing.
use mathlib.Core.Path.{◌≡◌, refl, sym, ◌∙◌}
use mathlib.Core.Bool.{Bool, true, false, cond}
use mathlib.Core.List.{List, []}
use Prim.Native.Nat.{ℕ, ◌+◌, ◌-◌, ◌*◌, ◌≤◌, ◌<◌}
use native.Mathlib.Nat.{le_of_eq}
use native.Mathlib.Numerals.{add-one}
use native.Mathlib.Omega.{arith}
use borrow.Author.Tests.{eqb-true, eqb-false}
use lib.ListN.{length, take, drop, length-drop}
use lib.Seq.{take_all}
use lib.Dec.{ltb, eqb}
use Rattle.numbers.specs.Numbers.{Bytes, number_at}
use Rattle.numbers.proofs.Bytes.{Bytes-drop, Bytes-take}
use Rattle.frame.specs.Reading.{refusal}
use Rattle.rules.specs.Sizes.{width, buffer_length}
use Rattle.rules.specs.Refusals.{each_readable}
use Rattle.slots.specs.Slots.{slot_length, framed, frame_at, held}
use Rattle.slots.proofs.Held.{between, readable-carried, unreadable_carried, held-step, held_none}

-- ---- the frame in a slot is of bytes

Bytes-framed : (bs : List ℕ) → Bytes bs → Bytes (framed bs)
unfolding framed
Bytes-framed bs bytes = go (ltb buffer_length (number_at bs 0 2)) (Bytes-take (number_at bs 0 2) (drop 2 bs) (Bytes-drop 2 bs bytes))
  where
    go : (long : Bool) → Bytes (take (number_at bs 0 2) (drop 2 bs)) → Bytes (cond long [] (take (number_at bs 0 2) (drop 2 bs)))
    go true inside = λ i. omega arith
    go false inside = inside

pub Bytes_frame_at : (slots : List ℕ) (slot : ℕ) → Bytes slots → Bytes (frame_at slots slot)
unfolding frame_at
Bytes_frame_at slots slot bytes = Bytes-framed (drop (slot * slot_length) slots) (Bytes-drop (slot * slot_length) slots bytes)

-- ---- each is readable

-- a turn, at which the test was made of the slot with those behind it
module _ (slots : List ℕ) (slot count : ℕ) (holds : Bool) (turn : slot < count)
    (is : holds ≡ eqb (refusal width (framed (take (length slots - slot * slot_length) (drop (slot * slot_length) slots)))) 0) where
  answered : eqb (refusal width (frame_at slots slot)) 0 ≡ holds
  unfolding frame_at
  answered =
      let rest = drop (slot * slot_length) slots in
      sym (rw (take_all (length slots - slot * slot_length) rest (le_of_eq (length-drop (slot * slot_length) slots))) at is)

  pub each_readable-next : Bytes slots → holds ≡ true
      → each_readable (held slots (between slot count)) ≡ each_readable (held slots (between (slot + 1) count))
  unfolding each_readable
  each_readable-next bytes read =
      rw (
        held-step slots slot count turn,
        readable-carried (frame_at slots slot) (Bytes_frame_at slots slot bytes) (eqb-true _ _ (answered ∙ read)),
        add-one slot,
      ) refl

  pub each_readable_stop : holds ≡ false → each_readable (held slots (between slot count)) ≡ false
  unfolding each_readable
  each_readable_stop unread =
      rw (held-step slots slot count turn, unreadable_carried (frame_at slots slot) (λ reads. eqb-false _ _ (answered ∙ unread) reads)) refl

pub each_readable_end : (slots : List ℕ) (slot count : ℕ) → count ≤ slot → each_readable (held slots (between slot count)) ≡ true
unfolding each_readable
each_readable_end slots slot count le = rw (held_none slots slot count le) refl
