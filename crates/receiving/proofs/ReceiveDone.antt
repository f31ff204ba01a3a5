-- A frame that is not turned down: document 01's receive. Assumes nothing.
use mathlib.Core.Path.{◌≡◌, refl, sym, ap, ◌∙◌}
use mathlib.Core.Bool.{Bool, true, false, cond}
use mathlib.Core.List.{List, [], ◌∷◌, ◌++◌}
use mathlib.Core.Logic.{◌⊎◌, inl, inr, ⊎_elim}
use Prim.Native.Nat.{ℕ, ◌*◌, ◌<◌}
use native.Mathlib.Nat.{zero-add}
use native.Mathlib.Omega.{arith}
use lib.ListN.{length, length-append}
use Rattle.numbers.proofs.Over.{over-nil}
use Rattle.frame.specs.Message.{Message}
use Rattle.frame.specs.Refusal.{first_of}
use Rattle.frame.specs.Reading.{message_in, message_from}
use Rattle.rules.specs.Sizes.{width, log_record_length}
use Rattle.rules.specs.Panel.{Panel as Record, ready}
use Rattle.rules.specs.Handing.{hand, log_record, log_records}
use Rattle.rules.specs.Settling.{settle, with_waiting, hand_then}
use Rattle.rules.specs.Calls.{hand_and_settle, receiving}
use Rattle.rules.specs.Refusals.{receive_checks}
use Rattle.rules.specs.Results.{Promised, receive}
use Rattle.rules.proofs.Checks.{receive_passed}
use Rattle.slots.specs.Slots.{Reads, Kept, held, first_slots}
use Rattle.slots.proofs.Held.{length-first_slots}
use Rattle.slots.proofs.Kept.{held_order}
use Rattle.choosing.specs.Choice.{asking}
use Rattle.handing.proofs.LogRecord.{length-readable}
use Rattle.settling.specs.Record.{Stage, stage, panel_at}
use Rattle.lent.specs.Record.{Parts, parts, record_of}
use Rattle.parts.specs.Record.{SettlesSlots}
use Rattle.receiving.specs.Steps.{taking, handed_at_once, Taken}
use Rattle.checking.proofs.MessageChecks.{ready-asking}
use Rattle.parts.proofs.Answering.{afterwards, settled_promised}

-- what the checks say of a record that is read, they say of the record that is lent
pub seen_checked : {seen lent : Parts} (bytes output : List ℕ) → seen ≡ lent
    → first_of (receive_checks (record_of seen) bytes output) ≡ first_of (receive_checks (record_of lent) bytes output)
seen_checked bytes output same = ap (λ (p : Parts). first_of (receive_checks (record_of p) bytes output)) same

-- the record as it begins, with what is lent beside the slots: all of the first slots are listed, nothing was handed
abbrev pub begun_stage : Parts → List ℕ → Stage
begun_stage p output =
    stage (record { own = p.own; time = p.time; high = p.high; waiting = p.count; handed = 0; floor = p.floor }) (first_slots 32) p.marks p.barrier output

panel_started : (p : Parts) (output : List ℕ) → Kept p.slots p.count → panel_at p.slots (begun_stage p output) ≡ record_of p
panel_started p output kept = ap (λ (ms : List Message). with_waiting (record_of p) ms) (held_order p.slots p.count kept.few)

-- to receive is to take the message and to settle
receiving-taking : (p : Record) (m : Message) → receiving p m ≡ afterwards (handed_at_once p m) (settle (taking p m))
unfolding receiving hand_and_settle
receiving-taking p m = go (ready p m)
  where
    go : (b : Bool) → cond b (hand_then settle p m) (settle (with_waiting p (p.waiting ++ (m ∷ []))))
        ≡ afterwards (cond b (m ∷ []) []) (settle (cond b (hand p m) (with_waiting p (p.waiting ++ (m ∷ [])))))
    go true = refl
    go false = refl

-- the log record of a message that was handed at once, or none
length_at_once : (p : Record) (bytes : List ℕ) → Reads bytes
    → length (log_records (handed_at_once p (message_in width bytes))) ≡ length (handed_at_once p (message_in width bytes)) * log_record_length
unfolding log_records
length_at_once p bytes reads = go (ready p (message_in width bytes))
  where
    go : (b : Bool) → length (log_records (cond b (message_in width bytes ∷ []) [])) ≡ length {A = Message} (cond b (message_in width bytes ∷ []) []) * log_record_length
    go true = length-append (log_record (message_in width bytes)) [] ∙ omega (arith, length-readable bytes reads)
    go false = refl

-- 32 are not waiting, or the message is ready
pub room : (p : Parts) (bytes output : List ℕ) → message_from bytes ≡ message_in width bytes → first_of (receive_checks (record_of p) bytes output) ≡ 0
    → (p.count < 32) ⊎ (ready (asking p.marks p.time p.floor) (message_in width bytes) ≡ true)
room p bytes output same passed =
    ⊎_elim (λ (l : length (held p.slots (first_slots p.count)) < 32). inl (omega (arith, length-first_slots p.slots p.count)))
    (λ r. inr (ready-asking (record_of p) (message_in width bytes) ∙ ap (ready (record_of p)) (sym same) ∙ r)) (receive_passed (record_of p) bytes output passed).room

module _ (p : Parts) (bytes output : List ℕ) (kept : Kept p.slots p.count) (reads : Reads bytes) (wide : message_from bytes ≡ message_in width bytes)
    (slots' : List ℕ) (begun : Stage)
    (taken : Taken (message_in width bytes) p.slots (begun_stage p output) slots' begun)
    (slots'' : List ℕ) (after : Stage) (settles : SettlesSlots slots' begun slots'' after) where
  -- the record that is left
  abbrev pub left_behind : Record
  left_behind = record_of (parts after.left.own after.left.time after.left.high after.left.waiting after.marks after.barrier slots'' after.left.floor)

  pub received-done : first_of (receive_checks (record_of p) bytes output) ≡ 0
      → Promised (record_of p) (receive bytes output)
      (record { number = 0; panel = left_behind; count = after.left.handed; output = after.output; frame_length = 0; buffer = [] })
  received-done passed =
      let m = message_in width bytes in
      let same = panel_started p output kept in
      settled_promised (record_of p) (receive bytes output) passed slots' (handed_at_once (record_of p) m) begun slots'' after settles
      (ap (receiving (record_of p)) wide
      ∙ receiving-taking (record_of p) m
      ∙ ap (λ (r : Record). afterwards (handed_at_once (record_of p) m) (settle r)) (sym (taken.panel ∙ ap (λ (r : Record). taking r m) same)))
      (rw same at taken.logged.output)
      (rw same at taken.logged.handed ∙ zero-add (length (handed_at_once (record_of p) m)))
      (length_at_once (record_of p) bytes reads)
      left_behind
      []
      settles.panel
      (sym (over-nil [] 0))
