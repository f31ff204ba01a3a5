-- A send that is not turned down: document 01's send. Assumes nothing.
use mathlib.Core.Path.{◌≡◌, refl, sym, ap, ap₂, ◌∙◌}
use mathlib.Core.Bool.{Bool}
use mathlib.Core.List.{List, [], ◌∷◌, append-nil}
use Prim.Native.Nat.{ℕ, ◌≤◌, max}
use native.Mathlib.Omega.{arith}
use lib.ListN.{length, get_or, length-append}
use lib.Dec.{ltb}
use Rattle.std.specs.Prelude.{Some}
use Rattle.numbers.specs.Numbers.{Bytes}
use Rattle.numbers.specs.Buffer.{over}
use Rattle.frame.specs.Message.{Message}
use Rattle.frame.specs.Frame.{frame}
use Rattle.frame.specs.Refusal.{first_of}
use Rattle.frame.specs.Reading.{message_in}
use Rattle.frame.proofs.Readable.{Readable, readable-true}
use Rattle.frame.proofs.Passed.{passed_zero}
use Rattle.frame.proofs.Places.{frame_passed, frame-message}
use Rattle.frame.proofs.Theorems.{frame_size}
use Rattle.writing.specs.Written.{written, written_size}
use Rattle.writing.proofs.Written.{written-frame}
use Rattle.rules.specs.Sizes.{width, last_deadline}
use Rattle.rules.specs.Panel.{Panel as Record, none64}
use Rattle.rules.specs.Handing.{raise, shortened, barrier_for, missed, hand, log_record, log_records}
use Rattle.rules.specs.Settling.{with_waiting, settle}
use Rattle.rules.specs.Calls.{send_deadline, new_message, emptied, hand_and_settle, sending}
use Rattle.rules.specs.Refusals.{broken, send_checks}
use Rattle.rules.specs.Results.{Promised, send}
use Rattle.rules.proofs.Checks.{SendPassed, send_passed, new_readable}
use Rattle.rules.proofs.LogRecords.{length-log_record}
use Rattle.slots.specs.Slots.{Reads, Kept, first_slots}
use Rattle.slots.proofs.Kept.{held_order}
use Rattle.handing.specs.Handed.{with_handed}
use Rattle.settling.specs.Record.{Stage, stage, stage_at, panel_at}
use Rattle.lent.specs.Record.{Known, Parts, record_of}
use Rattle.parts.specs.Record.{SettlesSlots}
use Rattle.parts.proofs.Answering.{afterwards, settled_promised}
use Rattle.sending.specs.Checks.{send_checks_on}

pub send_checks-on : (p : Record) (payload : List ℕ) (lifetime : ℕ) (output buffer : List ℕ)
    → send_checks_on (broken p) (length output) (length buffer) (length payload) (ltb last_deadline (send_deadline p lifetime)) ≡ send_checks p payload lifetime output buffer
unfolding send_checks
send_checks-on p payload lifetime output buffer = refl

-- the number of the check is that of the first check of a send that applies
pub numbered : (p : Parts) (payload : List ℕ) (lifetime : ℕ) (output buffer : List ℕ) (is_broken passes : Bool) (number : ℕ)
    → is_broken ≡ broken (record_of p)
    → passes ≡ ltb last_deadline (send_deadline (record_of p) lifetime)
    → number ≡ first_of (send_checks_on is_broken (length output) (length buffer) (length payload) passes)
    → number ≡ first_of (send_checks (record_of p) payload lifetime output buffer)
numbered p payload lifetime output buffer is_broken passes number b past n =
    n
    ∙ ap₂ (λ (b past : Bool). first_of (send_checks_on b (length output) (length buffer) (length payload) past)) b past
    ∙ ap first_of (send_checks-on (record_of p) payload lifetime output buffer)

-- a send that no check turns down
pub record Passed (p : Parts) (payload : List ℕ) (lifetime : ℕ) (output buffer : List ℕ) : Type 0 where
  pub bytes : Bytes payload
  pub panels : length p.barrier ≡ 64
  pub passed : first_of (send_checks (record_of p) payload lifetime output buffer) ≡ 0

module _ {p : Parts} {payload : List ℕ} {lifetime : ℕ} {output buffer : List ℕ} (P : Passed p payload lifetime output buffer) where
  abbrev given : Record
  given = record_of p

  pub checked : SendPassed given payload lifetime output buffer
  checked = send_passed given payload lifetime output buffer P.passed

  -- the message that is sent
  abbrev pub new : Message
  new = new_message given payload lifetime

  readable : Readable width new
  readable = new_readable given payload lifetime output buffer checked P.panels P.bytes

  pub frame_fits : length (frame width new) ≤ length buffer
  frame_fits = omega (arith, checked.buffer_room, (frame_size width new (readable-true width new readable)).1)

  -- ---- its frame is written

  pub length-written : written_size width new buffer ≡ Some (length (frame width new))
  length-written = sym (written-frame width new buffer (readable-true width new readable) frame_fits).0

  pub buffer-written : written width new buffer ≡ over buffer 0 (frame width new)
  buffer-written = sym (written-frame width new buffer (readable-true width new readable) frame_fits).1

  pub frame_reads : Reads (frame width new)
  frame_reads = passed_zero width (frame width new) (frame_passed width new (omega arith) readable)

  -- ---- it is handed with an empty barrier, and the record settles

  -- the floor, risen by the entries of a message
  abbrev risen : Message → ℕ
  risen m = max p.floor (missed p.time p.floor (λ panel. get_or p.marks panel 0) m.entries)

  abbrev pub handed_stage : Stage
  handed_stage =
      stage
      (record { own = p.own; time = p.time; high = max p.high new.deadline; waiting = p.count; handed = 1; floor = risen new })
      (first_slots 32) (raise p.marks new) (raise (shortened none64 new.entries) new) (over output 0 (log_record new))

  pub stage_handed : (part : List ℕ) → part ≡ frame width new → (knows : Known) (handed : ℕ) (written : List ℕ)
      → let m = message_in width part in
      knows
      ≡ with_handed (record { own = p.own; time = p.time; high = p.high; marks = p.marks; barrier = none64; floor = p.floor })
      (max p.high m.deadline) (raise p.marks m) (raise (shortened none64 m.entries) m) (risen m)
      → handed ≡ 1 → written ≡ over output 0 (log_record m)
      → stage_at knows p.count (first_slots 32) handed written ≡ handed_stage
  stage_handed part is knows handed written ek eh eo =
      let message : message_in width part ≡ new = ap (message_in width) is ∙ frame-message width new (omega arith) readable in
      rw (ek, eh, eo, message)

  panel_handed : Kept p.slots p.count → panel_at p.slots handed_stage ≡ hand (emptied given) new
  unfolding hand barrier_for
  panel_handed kept = ap (with_waiting (hand (emptied given) new)) (held_order p.slots p.count kept.few)

  pub sent-done : Kept p.slots p.count → (slots' : List ℕ) (after : Stage) (back : Record) → SettlesSlots p.slots handed_stage slots' after
      → back ≡ (settle (panel_at p.slots handed_stage)).panel
      → (size : ℕ) (filled : List ℕ) → size ≡ length (frame width new) → filled ≡ over buffer 0 (frame width new)
      → Promised given (send payload lifetime output buffer)
      (record { number = 0; panel = back; count = after.left.handed; output = after.output; frame_length = size; buffer = filled })
  unfolding sending hand_and_settle log_records
  sent-done kept slots' after back settles e size filled same_size same_bytes =
      let one = ap (over output 0) (sym (append-nil (log_record new))) in
      rw same_size
      (settled_promised given (send payload lifetime output buffer) P.passed p.slots (new ∷ []) handed_stage slots' after settles
      (ap (λ (r : Record). afterwards (new ∷ []) (settle r)) (sym (panel_handed kept)))
      one
      refl
      (length-append (log_record new) [] ∙ omega (arith, length-log_record new readable.payload))
      back
      filled
      e
      same_bytes)
