-- The answers of the calls: turned down, or done. Assumes nothing.
use Rattle.std.proofs.Common.{◌≡◌, ℕ, ◌*◌, List, [], ◌∷◌, ◌++◌, length, sym, refl, ap, ◌∙◌, append_assoc, arith, length-append}
use Rattle.numbers.specs.Buffer.{over}
use Rattle.numbers.proofs.Over.{over-over}
use Rattle.frame.specs.Message.{Message}
use Rattle.std.specs.Prelude.{Result as Answered}
use Rattle.std.specs.Result.{IsErrAnd}
use Rattle.std.proofs.lemmas.Result.{err_from_is_err_and}
use Rattle.frame.specs.declared.refusal.Refusal.{Refusal}
use Rattle.frame.specs.Refusal.{number_of, first_of}
use Rattle.frame.proofs.Refusals.{number_of_pos}
use Rattle.rules.specs.Sizes.{log_record_length}
use Rattle.rules.specs.Panel.{Panel as Record}
use Rattle.rules.specs.Handing.{log_records}
use Rattle.rules.specs.Settling.{Settled, settle, with_waiting}
use Rattle.rules.specs.Results.{Call, checks_of, effect_of, frame_of, output_of, buffer_of, refused, done, unless, defined, Promised}
use Rattle.rules.proofs.Checks.{Valid, true-each_readable}
use Rattle.rules.proofs.Results.{defined-number}
use Rattle.rules.proofs.Theorems.{refusal_unchanged}
use Rattle.slots.specs.Slots.{Kept, held, first_slots}
use Rattle.slots.proofs.Held.{length-first_slots}
use Rattle.slots.proofs.Kept.{kept_readable}
use Rattle.slot_moves.specs.Moves.{Gathered}
use Rattle.slot_moves.proofs.Kept.{held_gathered}
use Rattle.settling.specs.Record.{Stage, stage, panel_at, output_place, Settles}
use Rattle.settling.specs.Record.{Settling}
use Rattle.lent.specs.Record.{Parts, record_of}
use Rattle.parts.specs.declared.answer.Accepted.{Accepted}
use Rattle.parts.specs.Answers.{answer_of}
use Rattle.parts.specs.Record.{PromisedInPlace, SettlesSlots}

-- ---- turned down

pub refused_promised : (p : Record) (call : Call) (number : ℕ) → number ≡ first_of (checks_of p call) → (number ≡ 0 → ⊥)
    → Promised p call (refused p (output_of call) (buffer_of call) number)
refused_promised p call number e refuses =
    let same : number ≡ (defined p call).number = e ∙ sym (defined-number p call) in
    ap (refused p (output_of call) (buffer_of call)) same ∙ sym (refusal_unchanged p call (λ z. refuses (same ∙ z)))

-- in place the parts are left as they were
pub refused_in_place : (p : Parts) (call : Call) (number : ℕ) → number ≡ first_of (checks_of (record_of p) call) → (number ≡ 0 → ⊥)
    → PromisedInPlace p call (record { count = 0; length = 0; number = number }) p (output_of call) (buffer_of call)
unfolding refused
refused_in_place p call number e refuses = (refused_promised (record_of p) call number e refuses, λ _. refl)

-- by a call that gives up on a check's refusal
pub refusal_in_place : (p : Parts) (call : Call) (answer : Answered Accepted Refusal) (refusal : Refusal)
    → IsErrAnd answer (λ e. e ≡ refusal) → number_of refusal ≡ first_of (checks_of (record_of p) call)
    → PromisedInPlace p call (answer_of answer) p (output_of call) (buffer_of call)
refusal_in_place p call answer refusal is e =
    let (given, is_err, same) = err_from_is_err_and answer is in
    rw (is_err, same) (refused_in_place p call (number_of refusal) e (λ none. omega (arith, none, number_of_pos refusal)))

-- ---- done

-- a record that 26 lets through has readable frames in its first slots
pub valid_kept : (p : Parts) → Valid (record_of p) → Kept p.slots p.count
valid_kept p valid =
    kept_readable p.slots p.count (omega (arith, valid.count, length-first_slots p.slots p.count))
    (true-each_readable (held p.slots (first_slots p.count)) valid.waiting)

-- the record has settled, and the frames in the slots listed have moved up to the first slots
pub settles_slots : (slots : List ℕ) (begun : Stage) (s : Settling) (places marks barrier output after : List ℕ)
    → Settles slots begun (stage s places marks barrier output) → length begun.places ≡ 32 → Gathered slots places s.waiting after
    → SettlesSlots slots begun after (stage s (first_slots 32) marks barrier output)
settles_slots slots begun s places marks barrier output after settles long gathered =
    let held-now = held_gathered slots places s.waiting after (omega (arith, settles.listed.few, settles.long)) gathered in
    record {
      panel = ap (with_waiting (panel_at slots (stage s places marks barrier output))) held-now ∙ settles.panel;
      logged = record { output = settles.logged.output; handed = settles.logged.handed };
    }

log_records-append : (ms more : List Message) → log_records (ms ++ more) ≡ log_records ms ++ log_records more
unfolding log_records
log_records-append [] more = refl
log_records-append (m ∷ ms) more = rw (log_records-append ms more, append_assoc)

-- what was handed before settling, and what settling handed from there
abbrev pub afterwards : List Message → Settled → Settled
afterwards before rest = record { panel = rest.panel; handed = before ++ rest.handed }

-- A call that no check turns down, and whose effect is to hand some messages and then to settle, keeps its promise.
module _ (p : Record) (call : Call) (passed : first_of (checks_of p call) ≡ 0) (slots : List ℕ) (before : List Message) (begun : Stage)
    (slots' : List ℕ) (after : Stage) (settles : SettlesSlots slots begun slots' after) (effect : effect_of p call ≡ afterwards before (settle (panel_at slots begun))) where
  pub settled_promised : begun.output ≡ over (output_of call) 0 (log_records before) → begun.left.handed ≡ length before
      → length (log_records before) ≡ length before * log_record_length
      → (back : Record) (buffer : List ℕ) → back ≡ (settle (panel_at slots begun)).panel → buffer ≡ over (buffer_of call) 0 (frame_of p call)
      → Promised p call
      (record {
        number = 0;
        panel = back;
        count = after.left.handed;
        output = after.output;
        frame_length = length (frame_of p call);
        buffer = buffer;
      })
  unfolding defined unless done
  settled_promised written counted size back buffer given filled =
      let rest = (settle (panel_at slots begun)).handed in
      let count : after.left.handed ≡ length (before ++ (settle (panel_at slots begun)).handed)
      = settles.logged.handed ∙ omega (arith, counted, length-append before rest) in
      let output : after.output ≡ over (output_of call) 0 (log_records (before ++ (settle (panel_at slots begun)).handed))
      = settles.logged.output
      ∙ ap (λ (l : List ℕ). over l (output_place begun.left) (log_records rest)) written
      ∙ over-over (output_of call) 0 (log_records before) (output_place begun.left) (log_records rest)
      (omega (arith, size, ap (λ (n : ℕ). n * log_record_length) counted)) (omega arith)
      ∙ ap (over (output_of call) 0) (sym (log_records-append before rest)) in
      rw (given, count, output, filled, passed, effect)
