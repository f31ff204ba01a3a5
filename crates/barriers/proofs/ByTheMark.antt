-- A panel that removes barrier entries by its marks, and not by the entries that the message carries, breaks demand 3. Assumes nothing.
use Prim.Native.Nat.{ℕ}
use mathlib.Core.Path.{refl}
use mathlib.Core.Logic.{inl, inr}
use mathlib.Core.List.Memᴰ.{head as first}
use mathlib.Core.List.Memᴰ.{tail as later}
use mathlib.Core.List.{List, [], ◌∷◌}
use lib.ListN.{replicate}
use Rattle.rules.specs.Panel.{Name, old_make, new_make, Panel}
use Rattle.rules.specs.Handing.{shortened}
use Rattle.rules.specs.Results.{Call, send, receive, clock, set_back, Result, defined}
use Rattle.rules.specs.Lists.{Made, direct, Lawful, ran}
use Rattle.rules.specs.Demand3.{NoneAhead}
use Rattle.rules.specs.Cases.{output, buffer, frame_from, zeros4, zeros8}
use Rattle.rules.proofs.Shams.{lists_opened, empty_bytes}
use Rattle.barriers.specs.Barriers.{with_barrier}

-- the module: each receive removes by the marks
pub removes_by_the_mark : Panel → Call → Result
removes_by_the_mark p (send payload lifetime output buffer) = defined p (send payload lifetime output buffer)
removes_by_the_mark p (receive bytes output) = defined (with_barrier p old_make (shortened p.barrier p.marks)) (receive bytes output)
removes_by_the_mark p (clock time output) = defined p (clock time output)
removes_by_the_mark p (set_back reading) = defined p (set_back reading)

-- Panel 1 sends A, panel 2 sends B; panel 3 hears both, and sends C. Its frame names B alone, as the entry of A was removed when B came, though B
-- does not name A. Panel 0 hears B, then C, and A at the end.
frame_a : List ℕ
frame_a = frame_from (0x01 ∷ zeros4 (0x00 ∷ 0x00 ∷ 0x00 ∷ 0x64 ∷ zeros8)) (0x00 ∷ [])

frame_b : List ℕ
frame_b = frame_from (0x02 ∷ zeros4 (0x00 ∷ 0x00 ∷ 0x00 ∷ 0xc8 ∷ zeros8)) (0x00 ∷ [])

frame_c : List ℕ
frame_c = frame_from (0x03 ∷ zeros4 (0x00 ∷ 0x00 ∷ 0x01 ∷ 0x2c ∷ replicate 7 0x00)) (0x04 ∷ zeros4 (0x00 ∷ 0x00 ∷ 0x00 ∷ 0xc8 ∷ 0x00 ∷ []))

pub forgotten : List Made
forgotten =
    ran removes_by_the_mark
    ((0, new_make, receive frame_a output) ∷ (0, new_make, receive frame_c output) ∷ (0, new_make, receive frame_b output)
    ∷ (3, new_make, send [] 300 output buffer) ∷ (3, new_make, receive frame_b output) ∷ (3, new_make, receive frame_a output)
    ∷ (2, new_make, send [] 200 output buffer) ∷ (1, new_make, send [] 100 output buffer) ∷ [])

opened : Unit {0}
unfolding lists_opened frame_a frame_b frame_c removes_by_the_mark forgotten
opened = tt

-- it is a list that demand 3 speaks of,
pub forgotten_lawful : Lawful forgotten
unfolding opened
forgotten_lawful = (
  inl (_, later (later (first refl)), refl),
  (
    inl (_, first refl, refl),
    (
      inl (_, later (first refl), refl),
      (empty_bytes, (inl (_, first refl, refl), (inl (_, later (first refl), refl), (empty_bytes, (empty_bytes, tt))))),
    ),
  ),
)

abbrev name_a : Name
name_a = record { source = 1; deadline = 100 }

abbrev name_c : Name
name_c = record { source = 3; deadline = 300 }

-- and in the log of panel 0 C stands ahead of A, which was in the log of its sender
pub removing_by_the_mark_breaks : ¬ NoneAhead forgotten
unfolding opened
removing_by_the_mark_breaks none_ahead = none_ahead 0 name_c name_a (inr (inl (refl, first refl))) (direct _ (first refl) refl (first refl))
