-- What a trace tells of the receive of the same frame on the same record. Assumes nothing.
use Prim.Native.Nat.{ℕ, ◌≤◌}
use mathlib.Core.Path.{◌≡◌, refl, sym, ap, ap₂, ◌∙◌}
use mathlib.Core.Bool.{true, false, cond, ◌||◌, true≢false}
use mathlib.Core.Logic.{⊎_elim}
use mathlib.Core.Option.{Option, none, some}
use mathlib.Core.List.{List, [], ◌∷◌, ◌++◌}
use lib.ListN.{length}
use lib.Dec.{eqb}
use borrow.Author.Tests.{le-ltb}
use Rattle.frame.specs.Message.{Message, message_of}
use Rattle.frame.specs.Refusal.{first_of}
use Rattle.frame.specs.Reading.{Reading, message, refused, checks, width_in, refusal_of, message_from, reading_of}
use Rattle.frame.proofs.FirstOf.{each_number, first_of_append, first_of_right}
use Rattle.frame.proofs.Passed.{reading-message, reading-zero}
use Rattle.rules.specs.Sizes.{output_length}
use Rattle.rules.specs.Panel.{Panel, ready}
use Rattle.rules.specs.Handing.{hand}
use Rattle.rules.specs.Settling.{choice, with_waiting, Settled, go_on, settle}
use Rattle.rules.specs.Calls.{hand_and_settle, receiving}
use Rattle.rules.specs.Refusals.{is_refusal, Listed, broken, message_checks, receive_checks}
use Rattle.rules.specs.Results.{receive, defined}
use Rattle.visits.specs.Visiting.{trace_checks, shown, trace}
use Rattle.rules.specs.Lists.{◌is_in◌, Made, record_at, Lawful, AllPromised}
use Rattle.rules.proofs.Ready.{ready-with_waiting}
use Rattle.rules.proofs.WaitingList.{get_or_is_in, is_in_end}
use Rattle.rules.proofs.Choice.{choice-some}
use Rattle.rules.proofs.Settling.{NoneReady, settle_step}
use Rattle.rules.proofs.Results.{defined-number}
use Rattle.rules.proofs.Reached.{list_sound}
use Rattle.rules.proofs.Theorems.{listed}

-- ---- the number

shown-number : (p : Panel) (number : ℕ) (r : Reading) → (shown p number r).number ≡ number
shown-number p number (message m) = refl
shown-number p number (refused n) = refl

pub trace_first : (p : Panel) (bytes : List ℕ) → (trace p bytes).number ≡ first_of (trace_checks p bytes)
unfolding trace
trace_first p bytes = shown-number p (first_of (trace_checks p bytes)) (reading_of bytes)

module _ (p : Panel) (bytes output : List ℕ) (room : output_length ≤ length output) where
  -- where the output is long enough, its check passes
  checks_same : first_of (trace_checks p bytes) ≡ first_of (receive_checks p bytes output)
  unfolding trace_checks receive_checks first_of
  checks_same = rw (le-ltb (length output) output_length room)

  -- The number is that of the receive.
  pub trace_number : (trace p bytes).number ≡ (defined p (receive bytes output)).number
  trace_number = trace_first p bytes ∙ checks_same ∙ sym (defined-number p (receive bytes output))

-- 0, or one of the numbers of documents 01 and 02
trace_checks_listed : (p : Panel) (bytes : List ℕ) → each_number (λ n. eqb n 0 || is_refusal n) (trace_checks p bytes) ≡ true
unfolding each_number trace_checks message_checks checks
trace_checks_listed p bytes = refl

pub trace_listed : (p : Panel) (bytes : List ℕ) → Listed (trace p bytes).number
trace_listed p bytes = rw (trace_first p bytes) (listed (trace_checks p bytes) (trace_checks_listed p bytes))

-- ---- two frames that carry the same message are shown alike

module _ (p : Panel) where
  number_read : (bytes : List ℕ) → refusal_of bytes ≡ 0 → first_of (trace_checks p bytes) ≡ cond (broken p) 26 (first_of (message_checks p (message_from bytes)))
  unfolding trace_checks first_of checks each_number
  number_read bytes e = ap (λ (n : ℕ). cond (broken p) 26 n) (first_of_right (checks (width_in bytes) bytes) (message_checks p (message_from bytes)) refl e)

  pub trace_alike : (one other : List ℕ) → refusal_of one ≡ 0 → refusal_of other ≡ 0 → message_from one ≡ message_from other → trace p one ≡ trace p other
  unfolding trace
  trace_alike one other reads reads_too same =
      let number = number_read one reads ∙ ap (λ (m : Message). cond (broken p) 26 (first_of (message_checks p m))) same ∙ sym (number_read other reads_too) in
      let reading = reading-zero (width_in one) one reads ∙ ap message same ∙ sym (reading-zero (width_in other) other reads_too) in
      ap₂ (shown p) number reading

-- ---- ready

-- what is shown to be ready reads as a message that is
shown-ready : (p : Panel) (number : ℕ) (r : Reading) → (shown p number r).ready ≡ true → (m : Message) × (r ≡ message m) × (ready p m ≡ true)
shown-ready p number (message m) e = (m, refl, e)
shown-ready p number (refused n) e = absurd (true≢false (sym e))

receiving-ready : (p : Panel) (m : Message) → ready p m ≡ true → (receiving p m).handed ≡ m ∷ (settle (hand p m)).handed
unfolding receiving hand_and_settle
receiving-ready p m e = rw e

-- Ready: a receive that is not refused hands the message, before any other.
pub trace_handed : (p : Panel) (bytes : List ℕ) → (trace p bytes).ready ≡ true
    → (later : List Message) × ((receiving p (message_from bytes)).handed ≡ message_from bytes ∷ later)
unfolding trace
trace_handed p bytes e =
    let (m, read, is) = shown-ready p (first_of (trace_checks p bytes)) (reading_of bytes) e in
    let same : message_from bytes ≡ m = (reading-message (width_in bytes) bytes m read).1 in
    ((settle (hand p (message_from bytes))).handed, receiving-ready p (message_from bytes) (ap (ready p) same ∙ is))

-- ---- not ready

-- the bytes read, where no check applies
trace_reads : (p : Panel) (bytes : List ℕ) → (trace p bytes).number ≡ 0 → refusal_of bytes ≡ 0
unfolding trace_checks checks each_number
trace_reads p bytes e =
    let (front, behind) = first_of_append ((broken p, 26) ∷ checks (width_in bytes) bytes) (message_checks p (message_from bytes)) refl (sym (trace_first p bytes) ∙ e) in
    (first_of_append ((broken p, 26) ∷ []) (checks (width_in bytes) bytes) refl front).1

-- settling hands nothing where nothing that waits is ready
settle_still : (p : Panel) → NoneReady p → (settle p).handed ≡ []
unfolding go_on
settle_still p unready = ap (λ (s : Settled). s.handed) (settle_step p) ∙ go (choice p p.waiting) refl
  where
    go : (o : Option ℕ) → choice p p.waiting ≡ o → (go_on settle p o).handed ≡ []
    go none e = refl
    go (some place) e =
        let (lt, is) = choice-some p p.waiting (message_of 0 0 [] []) place e in
        absurd (true≢false (sym is ∙ unready _ (get_or_is_in place p.waiting (message_of 0 0 [] []) lt)))

receiving_unready : (p : Panel) (m : Message) → NoneReady p → ready p m ≡ false → (receiving p m).handed ≡ []
unfolding receiving
receiving_unready p m unready e = rw e (settle_still (with_waiting p (p.waiting ++ (m ∷ []))) none)
  where
    none : NoneReady (with_waiting p (p.waiting ++ (m ∷ [])))
    none w i =
        ready-with_waiting p (p.waiting ++ (m ∷ [])) w
        ∙ ⊎_elim (λ (old : w is_in p.waiting). unready w old) (λ (q : w ≡ m). ap (ready p) q ∙ e) (is_in_end p.waiting i)

-- Not ready, and no refusal: where nothing that waits is ready, the receive hands nothing, and the message waits.
pub trace_waits : (p : Panel) (bytes : List ℕ) → NoneReady p → (trace p bytes).number ≡ 0 → (trace p bytes).ready ≡ false
    → (receiving p (message_from bytes)).handed ≡ []
unfolding trace
trace_waits p bytes unready passed e =
    receiving_unready p (message_from bytes) unready (rw (reading-zero (width_in bytes) bytes (trace_reads p bytes passed)) at e)

-- At a record reached by a list, a message that a trace shows not to be ready, and that is not refused, waits: its receive hands nothing.
pub trace_waits_reached : (list : List Made) → Lawful list → AllPromised list → (panel : ℕ) (bytes : List ℕ)
    → let p = record_at panel list in
    (trace p bytes).number ≡ 0 → (trace p bytes).ready ≡ false → (receiving p (message_from bytes)).handed ≡ []
trace_waits_reached list lawful promised panel bytes =
    trace_waits (record_at panel list) bytes ((list_sound list lawful promised).sites panel).settled
