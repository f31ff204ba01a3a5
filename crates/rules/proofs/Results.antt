-- The defined result of a call on any record: a refusal changes nothing, at most 33 log records are written, and all that is written fits the
-- buffers. Assumes nothing.
use Prim.Native.Nat.{ℕ, zero, suc, ◌≤◌}
use native.Mathlib.Omega.{arith}
use mathlib.Core.Path.{◌≡◌, refl, sym, ap, ◌∙◌}
use mathlib.Core.Logic.{◌⊎◌, inl, inr, ⊎_elim, ◌≢◌}
use mathlib.Core.Bool.{true, false, not, ◌||◌}
use mathlib.Core.List.{[]}
use lib.ListN.{length, drop}
use lib.Dec.{eqb}
use borrow.Author.Tests.{eqb-false}
use Rattle.numbers.specs.Numbers.{Bytes}
use Rattle.frame.specs.Refusal.{first_of}
use Rattle.frame.specs.Reading.{checks, message_from}
use Rattle.frame.proofs.FirstOf.{applies, pass, each_number, first_of_each}
use Rattle.frame.proofs.Readable.{readable-true}
use Rattle.frame.proofs.Theorems.{from-readable, frame_size}
use Rattle.rules.specs.Sizes.{width, output_length}
use Rattle.rules.specs.Panel.{Panel}
use Rattle.rules.specs.Handing.{log_records}
use Rattle.rules.specs.Calls.{new_message, setting_back}
use Rattle.rules.specs.Refusals.{broken, send_checks, message_checks, receive_checks, clock_checks, set_back_checks, is_refusal}
use Rattle.rules.specs.Results.{Call, send, receive, clock, set_back, output_of, buffer_of, checks_of, effect_of, frame_of, Result, refused, done, unless, defined}
use Rattle.rules.proofs.Booleans.{not-true}
use Rattle.rules.proofs.LogRecords.{EachReadable, length-log_records}
use Rattle.rules.proofs.Checks.{Valid, send_passed, receive_passed, clock_passed, set_back_passed, new_readable}
use Rattle.rules.proofs.Handed.{effect_count, sending-readable, receiving-readable, clocking-readable}

-- ---- either refused or done

unless_both : (P : Result → Type 0) (number : ℕ) (refuse : ℕ → Result) (result : Result) → ((n : ℕ) → number ≡ suc n → P (refuse (suc n)))
    → (number ≡ 0 → P result) → P (unless number refuse result)
unfolding unless
unless_both P zero refuse result f g = g refl
unless_both P (suc n) refuse result f g = f n refl

pub defined_both : (P : Result → Type 0) (p : Panel) (call : Call)
    → ((n : ℕ) → first_of (checks_of p call) ≡ suc n → P (refused p (output_of call) (buffer_of call) (suc n)))
    → (first_of (checks_of p call) ≡ 0 → P (done (effect_of p call) (output_of call) (frame_of p call) (buffer_of call))) → P (defined p call)
unfolding defined
defined_both P p call f g =
    unless_both P (first_of (checks_of p call)) (refused p (output_of call) (buffer_of call)) _ f g

-- the number is that of the first check that applies
pub defined-number : (p : Panel) (call : Call) → (defined p call).number ≡ first_of (checks_of p call)
unfolding refused done
defined-number p call = defined_both (λ r. r.number ≡ first_of (checks_of p call)) p call (λ n e. sym e) (λ e. sym e)

-- ---- a call that is not refused

-- what holds of every such call: it has an output with room for all log records, or hands nothing
pub passed_valid : (p : Panel) (call : Call) → first_of (checks_of p call) ≡ 0
    → Valid p × ((output_length ≤ length (output_of call)) ⊎ ((effect_of p call).handed ≡ []))
unfolding setting_back
passed_valid p (send payload lifetime output buffer) e = let P = send_passed p payload lifetime output buffer e in (P.valid, inl P.output_room)
passed_valid p (receive bytes output) e = let P = receive_passed p bytes output e in (P.valid, inl P.output_room)
passed_valid p (clock time output) e = let P = clock_passed p time output e in (P.valid, inl P.output_room)
passed_valid p (set_back reading) e = (set_back_passed p e, inr refl)

-- what is given to a call is bytes
abbrev pub BytesOf : Call → Type 0
BytesOf (send payload lifetime output buffer) = Bytes payload
BytesOf (receive bytes output) = Bytes bytes
BytesOf (clock time output) = Unit {0}
BytesOf (set_back reading) = Unit {0}

effect_readable : (p : Panel) (call : Call) → length p.barrier ≡ 64 → BytesOf call → first_of (checks_of p call) ≡ 0
    → EachReadable (effect_of p call).handed
unfolding setting_back
effect_readable p (send payload lifetime output buffer) len bytes e =
    let P = send_passed p payload lifetime output buffer e in
    sending-readable p payload lifetime P.valid.waiting (new_readable p payload lifetime output buffer P len bytes)
effect_readable p (receive bytes output) len given e =
    let P = receive_passed p bytes output e in
    receiving-readable p (message_from bytes) P.valid.waiting (from-readable bytes given P.read)
effect_readable p (clock time output) len given e = clocking-readable p time (clock_passed p time output e).valid.waiting
effect_readable p (set_back reading) len given e = λ m i. elim i [ ]

-- the log records fit the output
pub output_fits : (p : Panel) (call : Call) → length p.barrier ≡ 64 → BytesOf call → first_of (checks_of p call) ≡ 0
    → length (log_records (effect_of p call).handed) ≤ length (output_of call)
output_fits p call len bytes e =
    let (valid, room) = passed_valid p call e in
    let records = length-log_records (effect_of p call).handed (effect_readable p call len bytes e) in
    ⊎_elim (λ (l : output_length ≤ length (output_of call)). omega (arith, effect_count p call valid.count, records))
    (λ none. omega (arith, records, ap length none)) room

-- the frame fits the frame buffer
pub buffer_fits : (p : Panel) (call : Call) → length p.barrier ≡ 64 → BytesOf call → first_of (checks_of p call) ≡ 0
    → length (frame_of p call) ≤ length (buffer_of call)
buffer_fits p (send payload lifetime output buffer) len bytes e =
    let P = send_passed p payload lifetime output buffer e in
    let r = new_readable p payload lifetime output buffer P len bytes in
    omega (arith, P.buffer_room, (frame_size width (new_message p payload lifetime) (readable-true width (new_message p payload lifetime) r)).1)
buffer_fits p (receive bytes output) len given e = omega arith
buffer_fits p (clock time output) len given e = omega arith
buffer_fits p (set_back reading) len given e = omega arith

-- ---- numbers

pub checks_listed : (p : Panel) (call : Call) → each_number (λ n. eqb n 0 || is_refusal n) (checks_of p call) ≡ true
unfolding each_number send_checks receive_checks message_checks clock_checks set_back_checks checks
checks_listed p (send payload lifetime output buffer) = refl
checks_listed p (receive bytes output) = refl
checks_listed p (clock time output) = refl
checks_listed p (set_back reading) = refl

-- the first check of each call is that of 26, and no other has its number
checks_26 : (p : Panel) (call : Call)
    → (applies (checks_of p call) 0 ≡ broken p) × (each_number (λ n. not (eqb n 26)) (drop 1 (checks_of p call)) ≡ true)
unfolding each_number send_checks receive_checks message_checks clock_checks set_back_checks checks
checks_26 p (send payload lifetime output buffer) = (refl, refl)
checks_26 p (receive bytes output) = (refl, refl)
checks_26 p (clock time output) = (refl, refl)
checks_26 p (set_back reading) = (refl, refl)

pub number_26 : (p : Panel) (call : Call) → broken p ≡ false → (defined p call).number ≢ 26
number_26 p call e q =
    let (at_first, rest) = checks_26 p call in
    let past = defined-number p call ∙ pass (checks_of p call) 0 refl (at_first ∙ e) in
    let other = first_of_each (λ n. not (eqb n 26)) (drop 1 (checks_of p call)) refl rest in
    eqb-false (first_of (drop 1 (checks_of p call))) 26 (not-true (eqb (first_of (drop 1 (checks_of p call))) 26) other) (sym past ∙ q)
