-- What is shown of one call, of settling and of every list of calls. Assumes nothing.
use Prim.Native.Nat.{ℕ, ◌≤◌, ◌<◌}
use native.Mathlib.Decide.{dec_lt}
use native.Mathlib.Omega.{arith}
use mathlib.Core.Path.{◌≡◌, refl, ap, ◌∙◌}
use mathlib.Core.Logic.{inl, inr, ⊎_elim, by_cases, ◌↔◌, ◌≢◌}
use mathlib.Core.Bool.{Bool, true, false, ◌||◌}
use mathlib.Core.List.{List, [], ◌∷◌, map}
use lib.ListN.{length, get_or, take}
use lib.Dec.{eqb, ltb}
use borrow.Author.Tests.{eqb-true, ltb-false}
use Rattle.numbers.specs.Numbers.{Bytes}
use Rattle.numbers.proofs.Over.{length_over, take-over}
use Rattle.frame.specs.Message.{Message}
use Rattle.frame.specs.Frame.{frame}
use Rattle.frame.specs.Reading.{version_in, message, checks, width_in, refusal_of, reading_of}
use Rattle.frame.specs.Refusal.{first_of}
use Rattle.frame.proofs.FirstOf.{each_number, first_of_each}
use Rattle.frame.proofs.Places.{version_place}
use Rattle.frame.proofs.Theorems.{reading_of_frame}
use Rattle.frame.proofs.Readable.{readable-true}
use Rattle.rules.specs.Sizes.{width}
use Rattle.rules.specs.Panel.{Name, Make, Panel, ready, fresh}
use Rattle.rules.specs.Handing.{log_records}
use Rattle.rules.specs.Settling.{settle}
use Rattle.rules.specs.Calls.{new_message}
use Rattle.rules.specs.Refusals.{is_refusal, Listed, broken, fresh_number, fresh_record}
use Rattle.rules.specs.Results.{Call, output_of, buffer_of, checks_of, effect_of, frame_of, Result, refused, done, defined, Promised, send}
use Rattle.rules.specs.Lists.{◌is_in◌, Made, record_at, given_to, log_at, Lawful, AllPromised, ran}
use Rattle.rules.specs.Demand3.{Demand3}
use Rattle.rules.proofs.Booleans.{or_either, cond_both}
use Rattle.rules.proofs.Settling.{settle_settles}
use Rattle.rules.proofs.Handed.{effect_count}
use Rattle.rules.proofs.Checks.{false-broken, send_passed, new_readable}
use Rattle.rules.proofs.Cause.{named, known_deadline}
use Rattle.rules.proofs.Results.{defined_both, defined-number, passed_valid, BytesOf, output_fits, buffer_fits, checks_listed, number_26}
use Rattle.rules.proofs.Steps.{ListSound}
use Rattle.rules.proofs.Reached.{list_sound, logged_whole, whole_logged, reached_valid}

-- ---- demand 3

-- After every list of calls that each gave what it promises.
pub demand_3 : (list : List Made) → Lawful list → AllPromised list → Demand3 list
demand_3 list lawful promised =
    let L = list_sound list lawful promised in
    record {
      as_defined = promised;
      exactly_when = λ i n k live. (λ logged x b. logged_whole list L i n x logged b, λ all. whole_logged list L i n k all);
      none_twice = λ i. (L.sites i).sound.log_sound.once;
      none_ahead = λ i. (L.sites i).sound.log_sound.order;
    }

-- So a module that keeps its promises keeps demand 3, after every list of calls.
pub every_list : (gives : Panel → Call → Result) → ((p : Panel) (call : Call) → Promised p call (gives p call))
    → (calls : List (ℕ × Make × Call)) → Lawful (ran gives calls) → Demand3 (ran gives calls)
every_list gives promise calls lawful = demand_3 (ran gives calls) lawful (promised calls)
  where
    promised : (calls : List (ℕ × Make × Call)) → AllPromised (ran gives calls)
    promised [] = tt
    promised ((panel, make, call) ∷ earlier) = (promise (given_to panel make (ran gives earlier)) call, promised earlier)

-- So for every mixture: `makes` says of each panel which make it is of.
pub every_mixture : (makes : ℕ → Make) (gives : Panel → Call → Result) → ((p : Panel) (call : Call) → Promised p call (gives p call))
    → (calls : List (ℕ × Call))
    → let list = ran gives (map (λ (next : ℕ × Call). (next.0, makes next.0, next.1)) calls) in
    Lawful list → Demand3 list
every_mixture makes gives promise calls = every_list gives promise (map (λ (next : ℕ × Call). (next.0, makes next.0, next.1)) calls)

-- A mark is the largest deadline in this panel's log from that source; 0 means none.
pub mark-largest : (list : List Made) → Lawful list → AllPromised list → (panel source : ℕ)
    → let mark = get_or (record_at panel list).marks source 0 in
    ((x : Name) → x is_in log_at panel list → x.source ≡ source → x.deadline ≤ mark) × (0 < mark → named source mark is_in log_at panel list)
    × ((mark ≡ 0) ↔ ((x : Name) → x is_in log_at panel list → x.source ≢ source))
mark-largest list lawful promised panel source = (below, largest, (none, zero))
  where
    L : ListSound list
    L = list_sound list lawful promised

    mark : ℕ
    mark = get_or (record_at panel list).marks source 0

    below : (x : Name) → x is_in log_at panel list → x.source ≡ source → x.deadline ≤ mark
    below x logged same = rw same at ((L.sites panel).sound.summary.below_mark x logged)

    largest : 0 < mark → named source mark is_in log_at panel list
    largest = (L.sites panel).sound.summary.mark_logged source

    none : mark ≡ 0 → (x : Name) → x is_in log_at panel list → x.source ≢ source
    none e x logged same =
        omega (arith, e, below x logged same, known_deadline L.sends_sound ((L.sites panel).sound.log_sound.known x logged))

    zero : ((x : Name) → x is_in log_at panel list → x.source ≢ source) → mark ≡ 0
    zero without = by_cases (dec_lt 0 mark) (λ above. absurd (without _ (largest above) refl)) (λ e. omega (arith, e))

-- A record reached by a list is never refused with 26.
pub never_26 : (list : List Made) → Lawful list → AllPromised list → (panel : ℕ) → panel < 64
    → (call : Call) → (defined (record_at panel list) call).number ≢ 26
never_26 list lawful promised panel lt call =
    number_26 (record_at panel list) call
    (false-broken (record_at panel list) (reached_valid list (list_sound list lawful promised) panel lt))

-- ---- settling

-- Settling ends with nothing ready waiting.
pub settle-done : (p : Panel) (w : Message) → w is_in (settle p).panel.waiting → ready (settle p).panel w ≡ false
settle-done p = (settle_settles p).settled

-- ---- one call, on any record

-- the number of the first check that applies is listed where each is
pub listed : (table : List (Bool × ℕ)) → each_number (λ n. eqb n 0 || is_refusal n) table ≡ true → Listed (first_of table)
listed table each =
    ⊎_elim (λ e. inl (eqb-true (first_of table) 0 e)) (λ e. inr e)
    (or_either (eqb (first_of table) 0) (is_refusal (first_of table)) (first_of_each (λ n. eqb n 0 || is_refusal n) table refl each))

-- The answer is 0 or one of the numbers of documents 01 and 02: that of a call, of a frame check or reading, and of fresh.
pub number_listed : (p : Panel) (call : Call) → Listed (defined p call).number
number_listed p call = rw (defined-number p call) (listed (checks_of p call) (checks_listed p call))

pub reading_listed : (bytes : List ℕ) → Listed (refusal_of bytes)
unfolding each_number checks
reading_listed bytes = listed (checks (width_in bytes) bytes) refl

pub fresh_listed : (own : ℕ) → Listed (fresh_number own)
unfolding each_number fresh_number
fresh_listed own = listed ((ltb 63 own, 11) ∷ []) refl

-- A refusal gives back the record as it was and alters no byte of a lent buffer; every count and length is 0.
pub refusal_unchanged : (p : Panel) (call : Call) → (defined p call).number ≢ 0
    → defined p call ≡ refused p (output_of call) (buffer_of call) (defined p call).number
unfolding refused done
refusal_unchanged p call =
    defined_both (λ r. r.number ≢ 0 → r ≡ refused p (output_of call) (buffer_of call) r.number) p call (λ n e q. refl) (λ e q. absurd (q refl))

-- At most 33 log records a call.
pub count_33 : (p : Panel) (call : Call) → (defined p call).count ≤ 33
unfolding refused done
count_33 p call =
    defined_both (λ r. r.count ≤ 33) p call (λ n e. omega arith) (λ e. effect_count p call (passed_valid p call e).0.count)

-- No buffer is written past its end: each keeps its length. (A record has 64 barrier entries, and what is given to a call is bytes.)
pub lengths_kept : (p : Panel) (call : Call) → length p.barrier ≡ 64 → BytesOf call
    → (length (defined p call).output ≡ length (output_of call)) × (length (defined p call).buffer ≡ length (buffer_of call))
unfolding refused done
lengths_kept p call len bytes =
    defined_both (λ r. (length r.output ≡ length (output_of call)) × (length r.buffer ≡ length (buffer_of call))) p call
    (λ n e. (refl, refl))
    (λ e. (
      length_over (output_of call) 0 (log_records (effect_of p call).handed) (omega (arith, output_fits p call len bytes e)),
      length_over (buffer_of call) 0 (frame_of p call) (omega (arith, buffer_fits p call len bytes e)),
    ))

-- The frame that a send wrote reads back as the message that it sent.
pub sent_reads : (p : Panel) (payload : List ℕ) (lifetime : ℕ) (output buffer : List ℕ) → length p.barrier ≡ 64 → Bytes payload
    → let result = defined p (send payload lifetime output buffer) in
    result.number ≡ 0 → reading_of (take result.frame_length result.buffer) ≡ message (new_message p payload lifetime)
unfolding refused done
sent_reads p payload lifetime output buffer len bytes =
    let m = new_message p payload lifetime in
    defined_both (λ r. r.number ≡ 0 → reading_of (take r.frame_length r.buffer) ≡ message m) p (send payload lifetime output buffer)
    (λ n e z. absurd (omega (arith, z)))
    (λ e _.
    let r = new_readable p payload lifetime output buffer (send_passed p payload lifetime output buffer e) len bytes in
    ap reading_of (take-over buffer (frame width m)) ∙ reading_of_frame width m (omega arith) (readable-true width m r))

-- It is of version 2.
pub sent_version : (p : Panel) (payload : List ℕ) (lifetime : ℕ) (output buffer : List ℕ)
    → let result = defined p (send payload lifetime output buffer) in
    result.number ≡ 0 → version_in (take result.frame_length result.buffer) ≡ 2
unfolding refused done
sent_version p payload lifetime output buffer =
    let m = new_message p payload lifetime in
    defined_both (λ r. r.number ≡ 0 → version_in (take r.frame_length r.buffer) ≡ 2) p (send payload lifetime output buffer)
    (λ n e z. absurd (omega (arith, z)))
    (λ e _. ap version_in (take-over buffer (frame width m)) ∙ version_place width m (omega arith))

-- A fresh panel is let through by 26, whatever number was asked for.
pub fresh_valid : (own : ℕ) → broken (fresh_record own) ≡ false
unfolding fresh_record record_at
fresh_valid own =
    cond_both (λ p. broken p ≡ false) (ltb 63 own) (λ _. valid 0 (omega arith)) (λ e. valid own (omega (arith, ltb-false 63 own e)))
  where
    valid : (panel : ℕ) → panel < 64 → broken (fresh panel) ≡ false
    valid panel lt = false-broken (fresh panel) (reached_valid [] (list_sound [] tt tt) panel lt)
