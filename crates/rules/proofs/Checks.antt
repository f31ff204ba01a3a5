-- What holds where a call is not refused. Assumes nothing.
use Prim.Native.Nat.{ℕ, ◌+◌, ◌≤◌, ◌<◌}
use native.Mathlib.Omega.{arith}
use mathlib.Core.Path.{◌≡◌, refl}
use mathlib.Core.Logic.{◌≢◌, ◌⊎◌, inl, inr, ⊎_elim}
use mathlib.Core.Bool.{Bool, true, false, not}
use mathlib.Core.List.Memᴰ.{head as first}
use mathlib.Core.List.Memᴰ.{tail as later}
use mathlib.Core.List.{List, [], ◌∷◌, ◌++◌}
use lib.ListN.{length, get_or}
use lib.Dec.{leb, ltb}
use borrow.Author.Tests.{ltb-false, leb-false, eqb-false, le-ltb}
use Rattle.numbers.specs.Numbers.{Bytes}
use Rattle.frame.specs.Message.{Message}
use Rattle.frame.specs.Refusal.{first_of}
use Rattle.frame.specs.Reading.{checks, width_in, refusal_of, message_from}
use Rattle.frame.specs.Readable.{each_below, readable}
use Rattle.frame.proofs.Conjunction.{and_both}
use Rattle.frame.proofs.FirstOf.{each_number, applies-none, first_of_append}
use Rattle.frame.proofs.EachNumber.{each_below-lt, lt-each_below}
use Rattle.frame.proofs.Readable.{Readable, true-readable, readable-true}
use Rattle.rules.specs.Sizes.{width, last_deadline, output_length, buffer_length}
use Rattle.rules.specs.Panel.{name_of, Panel, ready}
use Rattle.rules.specs.Calls.{send_deadline, new_message}
use Rattle.rules.specs.Refusals.{some_above, each_readable, broken, is_waiting, farthest_ahead, too_far_ahead, send_checks, message_checks, receive_checks, clock_checks, set_back_checks}
use Rattle.rules.specs.Lists.{◌is_in◌}
use Rattle.rules.proofs.Booleans.{and_either, or_neither, not-false}
use Rattle.rules.proofs.Ready.{limit, lapsed-false}
use Rattle.rules.proofs.WaitingList.{is_waiting-false}
use Rattle.rules.proofs.LogRecords.{EachReadable}

-- ---- 26

pub each_readable-true : (ms : List Message) → each_readable ms ≡ true → EachReadable ms
unfolding each_readable
each_readable-true [] e m i = elim i [ ]
each_readable-true (x ∷ ms) e m (first q) = rw q (true-readable width x (and_both (readable width x) (each_readable ms) e).0)
each_readable-true (x ∷ ms) e m (later i) = each_readable-true ms (and_both (readable width x) (each_readable ms) e).1 m i

pub true-each_readable : (ms : List Message) → EachReadable ms → each_readable ms ≡ true
unfolding each_readable
true-each_readable [] r = refl
true-each_readable (m ∷ ms) r = rw (readable-true width m (r m (first refl))) (true-each_readable ms (λ w i. r w (later i)))

-- a record that 26 lets through
pub record Valid (p : Panel) : Type 0 where
  pub own : p.own < 64
  pub marks : (k : ℕ) → get_or p.marks k 0 ≤ p.high
  pub barrier : (k : ℕ) → get_or p.barrier k 0 ≤ p.high
  pub count : length p.waiting ≤ 32
  pub waiting : EachReadable p.waiting

pub broken-false : (p : Panel) → broken p ≡ false → Valid p
unfolding broken
broken-false p e =
    let (t3, w) = or_neither _ (not (each_readable p.waiting)) e in
    let (t2, c) = or_neither _ (ltb 32 (length p.waiting)) t3 in
    let (t1, b) = or_neither _ (some_above p.high p.barrier) t2 in
    let (o, m) = or_neither (ltb 63 p.own) (some_above p.high p.marks) t1 in
    record {
      own = omega (arith, ltb-false 63 p.own o);
      marks = below p.marks m;
      barrier = below p.barrier b;
      count = ltb-false 32 (length p.waiting) c;
      waiting = each_readable-true p.waiting (not-false (each_readable p.waiting) w);
    }
  where
    below : (ns : List ℕ) → some_above p.high ns ≡ false → (k : ℕ) → get_or ns k 0 ≤ p.high
    below ns f k = omega (arith, each_below-lt (p.high + 1) ns (omega arith) (not-false (each_below (p.high + 1) ns) f) k)

pub false-broken : (p : Panel) → Valid p → broken p ≡ false
unfolding broken
false-broken p valid =
    simp (
      le-ltb 63 p.own (omega (arith, valid.own)),
      lt-each_below (p.high + 1) p.marks (λ k _. omega (arith, valid.marks k)),
      lt-each_below (p.high + 1) p.barrier (λ k _. omega (arith, valid.barrier k)),
      le-ltb 32 (length p.waiting) valid.count,
      true-each_readable p.waiting valid.waiting,
    )

-- ---- send

pub record SendPassed (p : Panel) (payload : List ℕ) (lifetime : ℕ) (output buffer : List ℕ) : Type 0 where
  pub valid : Valid p
  pub output_room : output_length ≤ length output
  pub buffer_room : buffer_length ≤ length buffer
  pub payload_32 : length payload ≤ 32
  pub deadline : send_deadline p lifetime ≤ last_deadline

pub send_passed : (p : Panel) (payload : List ℕ) (lifetime : ℕ) (output buffer : List ℕ) → first_of (send_checks p payload lifetime output buffer) ≡ 0
    → SendPassed p payload lifetime output buffer
unfolding send_checks each_number
send_passed p payload lifetime output buffer e =
    let none = applies-none (send_checks p payload lifetime output buffer) refl e in
    let (o, b) = or_neither (ltb (length output) output_length) (ltb (length buffer) buffer_length) (none 1) in
    record {
      valid = broken-false p (none 0);
      output_room = ltb-false (length output) output_length o;
      buffer_room = ltb-false (length buffer) buffer_length b;
      payload_32 = ltb-false 32 (length payload) (none 2);
      deadline = ltb-false last_deadline (send_deadline p lifetime) (none 3);
    }

-- the message of a send that is not refused has a frame
pub new_readable : (p : Panel) (payload : List ℕ) (lifetime : ℕ) (output buffer : List ℕ) → SendPassed p payload lifetime output buffer
    → length p.barrier ≡ 64 → Bytes payload → Readable width (new_message p payload lifetime)
unfolding new_message send_deadline
new_readable p payload lifetime output buffer P len bytes =
    record {
      source = P.valid.own;
      deadline = omega arith;
      fits = omega (arith, P.deadline);
      panels = len;
      entries = λ k. omega (arith, P.valid.barrier k);
      payload = P.payload_32;
      bytes = bytes;
    }

-- ---- receive

pub record ReceivePassed (p : Panel) (bytes output : List ℕ) (m : Message) : Type 0 where
  pub valid : Valid p
  pub output_room : output_length ≤ length output
  pub read : refusal_of bytes ≡ 0
  pub foreign : m.source ≢ p.own
  pub alive : limit p ≤ m.deadline
  pub near : m.deadline ≤ p.time + farthest_ahead
  pub above_mark : get_or p.marks m.source 0 < m.deadline
  pub not_waiting : (w : Message) → w is_in p.waiting → name_of w ≢ name_of m
  pub room : (length p.waiting < 32) ⊎ (ready p m ≡ true)

pub receive_passed : (p : Panel) (bytes output : List ℕ) → first_of (receive_checks p bytes output) ≡ 0 → ReceivePassed p bytes output (message_from bytes)
unfolding receive_checks message_checks too_far_ahead each_number checks
receive_passed p bytes output e =
    let m = message_from bytes in
    let start : List (Bool × ℕ) = (broken p, 26) ∷ (ltb (length output) output_length, 10) ∷ [] in
    let (begun, behind) = first_of_append start (checks (width_in bytes) bytes ++ message_checks p m) refl e in
    let none = applies-none start refl begun in
    let (read, rest) = first_of_append (checks (width_in bytes) bytes) (message_checks p m) refl behind in
    let passed = applies-none (message_checks p m) refl rest in
    let (above, new) = or_neither (leb m.deadline (get_or p.marks m.source 0)) (is_waiting m p.waiting) (passed 3) in
    record {
      valid = broken-false p (none 0);
      output_room = ltb-false (length output) output_length (none 1);
      read = read;
      foreign = eqb-false m.source p.own (passed 0);
      alive = lapsed-false p m.deadline (passed 1);
      near = ltb-false (p.time + farthest_ahead) m.deadline (passed 2);
      above_mark = leb-false m.deadline (get_or p.marks m.source 0) above;
      not_waiting = is_waiting-false m p.waiting new;
      room = ⊎_elim (λ f. inl (leb-false 32 (length p.waiting) f)) (λ f. inr (not-false (ready p m) f))
          (and_either (leb 32 (length p.waiting)) (not (ready p m)) (passed 4));
    }

-- ---- clock

pub record ClockPassed (p : Panel) (time : ℕ) (output : List ℕ) : Type 0 where
  pub valid : Valid p
  pub output_room : output_length ≤ length output
  pub later : p.time ≤ time

pub clock_passed : (p : Panel) (time : ℕ) (output : List ℕ) → first_of (clock_checks p time output) ≡ 0 → ClockPassed p time output
unfolding clock_checks each_number
clock_passed p time output e =
    let none = applies-none (clock_checks p time output) refl e in
    record {
      valid = broken-false p (none 0);
      output_room = ltb-false (length output) output_length (none 1);
      later = ltb-false time p.time (none 2);
    }

-- ---- set back

pub set_back_passed : (p : Panel) → first_of (set_back_checks p) ≡ 0 → Valid p
unfolding set_back_checks each_number
set_back_passed p e = broken-false p (applies-none (set_back_checks p) refl e 0)
