-- Laws of taking a message: it is handed if it is ready, and otherwise put behind those that wait. Assumes nothing.
use Prim.Native.Nat.{ℕ, ◌+◌, ◌*◌, ◌≤◌, ◌<◌, max}
use native.Mathlib.Numerals.{add-one}
use native.Mathlib.Omega.{arith}
use mathlib.Core.Path.{◌≡◌, refl, sym, ap, ◌∙◌}
use mathlib.Core.Logic.{◌⊎◌, ⊎_elim}
use mathlib.Core.Bool.{true, false, true≢false}
use mathlib.Core.List.{List, [], ◌∷◌, ◌++◌, append-nil}
use lib.ListN.{length, get_or, take}
use Rattle.numbers.specs.Numbers.{big_endian}
use Rattle.numbers.specs.Buffer.{over}
use Rattle.frame.specs.Message.{Message}
use Rattle.frame.specs.Reading.{mask_in, message_in}
use Rattle.frame.proofs.Passed.{zero_passed}
use Rattle.rules.specs.Sizes.{width, buffer_length}
use Rattle.rules.specs.Panel.{Panel, ready}
use Rattle.rules.specs.Handing.{raise, shortened, barrier_for, missed, hand, log_record, log_records}
use Rattle.rules.specs.Settling.{with_waiting}
use Rattle.slots.specs.Slots.{slot_length, Reads, Slots, Kept, held, first_slots}
use Rattle.slots.proofs.Held.{carried_reads}
use Rattle.slots.proofs.Kept.{listed_order, held_order}
use Rattle.numbers.proofs.Ones.{ones_in_le}
use Rattle.slot_moves.proofs.Kept.{held_put, kept_put}
use Rattle.choosing.specs.Choice.{asking}
use Rattle.lent.specs.Record.{Known}
use Rattle.handing.specs.Handed.{with_handed}
use Rattle.settling.specs.Record.{Settling, Stage, stage, stage_at, panel_at, output_place}
use Rattle.settling.proofs.Stages.{logged_none}
use Rattle.receiving.specs.Steps.{taking, handed_at_once, Taken}
use Rattle.checking.proofs.MessageChecks.{ready-asking}

-- ---- what is taken, by whether it is ready

module _ (p : Panel) (m : Message) where
  taking-ready : ready p m ≡ true → taking p m ≡ hand p m
  taking-ready e = rw e

  handed_at_once-ready : ready p m ≡ true → handed_at_once p m ≡ m ∷ []
  handed_at_once-ready e = rw e

  taking_unready : ready p m ≡ false → taking p m ≡ with_waiting p (p.waiting ++ (m ∷ []))
  taking_unready e = rw e

  handed_at_once_unready : ready p m ≡ false → handed_at_once p m ≡ []
  handed_at_once_unready e = rw e

-- ---- room

-- where there is room or it is ready, and it is not ready, there is room
pub room_unready : (p : Panel) (m : Message) (count : ℕ) → (count < 32) ⊎ (ready p m ≡ true) → ready p m ≡ false → count < 32
room_unready p m count room e = ⊎_elim (λ (lt : count < 32). lt) (λ (t : ready p m ≡ true). absurd (true≢false (sym t ∙ e))) room

-- bytes that read as a message have room in a slot
pub length_reads : (bs : List ℕ) → Reads bs → length bs ≤ buffer_length
length_reads bs reads =
    let p = zero_passed width bs reads in
    omega (arith, p.whole, p.payload, ones_in_le 64 (mask_in width bs))

-- ---- the message of a frame is taken

module _ (s : Settling) (marks barrier slots output frame : List ℕ) (reads : Reads frame) (kept : Kept slots s.waiting) where
  abbrev before : Stage
  before = stage s (first_slots 32) marks barrier output

  abbrev m : Message
  m = message_in width frame

  -- handed, one more was, and high and floor are these
  abbrev one_more : ℕ → ℕ → Settling
  one_more high floor = record { own = s.own; time = s.time; high = high; waiting = s.waiting; handed = s.handed + 1; floor = floor }

  -- the floor, risen by the entries of the message
  abbrev risen : ℕ
  risen = max s.floor (missed s.time s.floor (λ panel. get_or marks panel 0) m.entries)

  -- ready, it is handed
  handed_now : ready (asking marks s.time s.floor) m ≡ true
      → Taken m slots before slots
      (stage (one_more (max s.high m.deadline) risen) (first_slots 32) (raise marks m) (raise (shortened barrier m.entries) m)
      (over output (output_place s) (log_record m)))
  unfolding hand barrier_for log_records
  handed_now e =
      let p = panel_at slots before in
      let now-ready = sym (ready-asking p m) ∙ e in
      let it : handed_at_once p m ≡ m ∷ [] = handed_at_once-ready p m now-ready in
      record {
        panel = sym (taking-ready p m now-ready);
        logged =
            record {
              output =
                  ap (over output (output_place s)) (sym (append-nil (log_record m)))
                  ∙ ap (λ (ms : List Message). over output (output_place s) (log_records ms)) (sym it);
              handed = ap (λ (ms : List Message). s.handed + length ms) (sym it);
            };
        one_more = omega arith;
        listed = listed_order slots s.waiting kept;
      }

  -- what the panel knew
  abbrev knew : Known
  knew = record { own = s.own; time = s.time; high = s.high; marks = marks; barrier = barrier; floor = s.floor }

  pub taken_handed : ready (asking marks s.time s.floor) m ≡ true → (knows : Known) (handed : ℕ) (written : List ℕ)
      → knows ≡ with_handed knew (max s.high m.deadline) (raise marks m) (raise (shortened barrier m.entries) m) risen
      → handed ≡ s.handed + 1 → written ≡ over output (output_place s) (log_record m)
      → Taken m slots before slots (stage_at knows s.waiting (first_slots 32) handed written)
  taken_handed ready knows handed written ek eh eo = rw (ek, eh, eo) (handed_now ready)

  -- not ready, it is put behind the others
  module _ (unready : ready (asking marks s.time s.floor) m ≡ false) (few : s.waiting < 32) (size : Slots slots) where
    abbrev after : Settling
    after = record { own = s.own; time = s.time; high = s.high; waiting = s.waiting + 1; handed = s.handed; floor = s.floor }

    abbrev put : List ℕ
    put = over slots (s.waiting * slot_length) (big_endian 2 (length frame) ++ frame)

    kept_after : Kept put (s.waiting + 1)
    kept_after = rw add-one (kept_put slots s.waiting frame size kept few (length_reads frame reads) reads)

    waiting_after : held put (take (s.waiting + 1) (first_slots 32)) ≡ held slots (take s.waiting (first_slots 32)) ++ (m ∷ [])
    waiting_after =
        held_order put (s.waiting + 1) (omega (arith, few))
        ∙ ap (λ (n : ℕ). held put (first_slots n)) (add-one s.waiting)
        ∙ held_put slots s.waiting frame size kept few (length_reads frame reads)
        ∙ rw (carried_reads frame reads, held_order slots s.waiting kept.few)

    put_last : Taken m slots before put (stage after (first_slots 32) marks barrier output)
    put_last =
        let p = panel_at slots before in
        let not-ready = sym (ready-asking p m) ∙ unready in
        record {
          panel = ap (with_waiting p) waiting_after ∙ sym (taking_unready p m not-ready);
          logged =
              logged_none before (stage after (first_slots 32) marks barrier output) (handed_at_once p m) (handed_at_once_unready p m not-ready) refl refl;
          one_more = omega arith;
          listed = listed_order put (s.waiting + 1) kept_after;
        }

    pub taken_waiting : (slots_after : List ℕ) → slots_after ≡ put → Taken m slots before slots_after (stage after (first_slots 32) marks barrier output)
    taken_waiting slots_after e = rw e put_last
