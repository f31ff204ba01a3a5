-- Deadlines far ahead: which are refused, and that nothing else is changed by it. Assumes nothing.
use Prim.Native.Nat.{ℕ, ◌+◌, ◌≤◌, ◌<◌}
use native.Mathlib.Decide.{ℕ_discrete}
use native.Mathlib.Omega.{arith}
use mathlib.Core.Path.{◌≡◌, refl, sym, ◌∙◌}
use mathlib.Core.Logic.{◌⊎◌, inl, inr, ⊎_elim, by_cases, ◌≢◌}
use mathlib.Core.Bool.{Bool, true, false, not}
use mathlib.Core.List.Memᴰ
use mathlib.Core.List.Memᴰ.{tail as later}
use mathlib.Core.List.{List, [], ◌∷◌, ◌++◌}
use lib.ListN.{length, get_or}
use lib.Dec.{eqb, ltb}
use borrow.Author.Tests.{eqb-false, ltb-true, ltb-false, le-ltb}
use Rattle.numbers.specs.Numbers.{Bytes}
use Rattle.frame.specs.Message.{Message}
use Rattle.frame.specs.Refusal.{first_of}
use Rattle.frame.specs.Reading.{checks, width_in, refusal_of, message_from}
use Rattle.frame.proofs.FirstOf.{each_number, first_of_each, first_of_append, first_of_left, first_of_right}
use Rattle.frame.proofs.Theorems.{from-readable}
use Rattle.rules.specs.Sizes.{last_deadline, output_length}
use Rattle.rules.specs.Panel.{Name, Panel, lapsed, ready}
use Rattle.rules.specs.Handing.{hand}
use Rattle.rules.specs.Settling.{Settled, with_waiting, settle}
use Rattle.rules.specs.Calls.{hand_and_settle, new_message, emptied, sending, receiving, with_time, drop_lapsed, clocking, setting_back}
use Rattle.rules.specs.Refusals.{broken, farthest_ahead, too_far_ahead, send_checks, message_checks, receive_checks, clock_checks, set_back_checks}
use Rattle.rules.specs.Results.{Call, send, receive, clock, set_back, effect_of, refused, done, defined}
use Rattle.rules.specs.Lists.{◌is_in◌, Made, record_at, sends, Before, Lawful, AllPromised}
use Rattle.rules.specs.FarAhead.{FarAhead}
use Rattle.rules.proofs.Booleans.{not-true, cond_both}
use Rattle.rules.proofs.Ready.{limit-with_waiting, limit-lapsed}
use Rattle.rules.proofs.Raise.{raise-le}
use Rattle.rules.proofs.WaitingList.{alive_is_in}
use Rattle.rules.proofs.Settling.{settle_settles}
use Rattle.rules.proofs.Checks.{receive_passed}
use Rattle.rules.proofs.Cause.{before_rises}
use Rattle.rules.proofs.Results.{defined_both, defined-number}
use Rattle.rules.proofs.Reached.{list_sound}

-- ---- which are refused

-- a table without 32 does not answer it
without_32 : (table : List (Bool × ℕ)) → each_number (λ n. not (eqb n 32)) table ≡ true → first_of table ≢ 32
without_32 table each =
    eqb-false (first_of table) 32 (not-true (eqb (first_of table) 32) (first_of_each (λ n. not (eqb n 32)) table refl each))

module _ (p : Panel) where
  send_never : (payload : List ℕ) (lifetime : ℕ) (output buffer : List ℕ) → (defined p (send payload lifetime output buffer)).number ≢ 32
  unfolding each_number send_checks
  send_never payload lifetime output buffer =
      rw (defined-number p (send payload lifetime output buffer)) (without_32 (send_checks p payload lifetime output buffer) refl)

  clock_never : (time : ℕ) (output : List ℕ) → (defined p (clock time output)).number ≢ 32
  unfolding each_number clock_checks
  clock_never time output = rw (defined-number p (clock time output)) (without_32 (clock_checks p time output) refl)

  set_back_never : (reading : ℕ) → (defined p (set_back reading)).number ≢ 32
  unfolding each_number set_back_checks
  set_back_never reading = rw (defined-number p (set_back reading)) (without_32 (set_back_checks p) refl)

-- of the checks of a message, that of 32 alone answers it
row_32 : (own lapsed far had full : Bool) → first_of ((own, 20) ∷ (lapsed, 21) ∷ (far, 32) ∷ (had, 22) ∷ (full, 23) ∷ []) ≡ 32 → far ≡ true
unfolding first_of
row_32 true lapsed far had full e = absurd (omega (arith, e))
row_32 false true far had full e = absurd (omega (arith, e))
row_32 false false true had full e = refl
row_32 false false false true full e = absurd (omega (arith, e))
row_32 false false false false true e = absurd (omega (arith, e))
row_32 false false false false false e = absurd (omega (arith, e))

module _ (p : Panel) (bytes output : List ℕ) where
  abbrev m : Message
  m = message_from bytes

  abbrev start : List (Bool × ℕ)
  start = (broken p, 26) ∷ (ltb (length output) output_length, 10) ∷ []

  abbrev front : List (Bool × ℕ)
  front = start ++ checks (width_in bytes) bytes

  far : first_of (message_checks p m) ≡ 32 → p.time + farthest_ahead < m.deadline
  unfolding message_checks too_far_ahead
  far e = ltb-true (p.time + farthest_ahead) m.deadline (row_32 _ _ _ _ _ e)

  refused_far : (defined p (receive bytes output)).number ≡ 32 → (refusal_of bytes ≡ 0) × (p.time + farthest_ahead < m.deadline)
  unfolding receive_checks each_number checks
  refused_far is =
      let number : first_of (front ++ message_checks p m) ≡ 32 = sym (defined-number p (receive bytes output)) ∙ is in
      by_cases (ℕ_discrete (first_of front) 0)
      (λ e. ((first_of_append start (checks (width_in bytes) bytes) refl e).1, far (sym (first_of_right front (message_checks p m) refl e) ∙ number)))
      (λ refuses. absurd (without_32 front refl (sym (first_of_left front (message_checks p m) refuses) ∙ number)))

  taken_near : (defined p (receive bytes output)).number ≡ 0 → m.deadline ≤ p.time + farthest_ahead
  taken_near e = (receive_passed p bytes output (sym (defined-number p (receive bytes output)) ∙ e)).near

  never_late : Bytes bytes → last_deadline ≤ p.time + farthest_ahead → (defined p (receive bytes output)).number ≢ 32
  never_late given late is =
      let (reads, above) = refused_far is in
      omega (arith, above, (from-readable bytes given reads).fits)

-- ---- what waits, and the marks

-- after what a call does, each message that waited waits, or was handed, or has lapsed; no mark has fallen
record Stays (p : Panel) (s : Settled) : Type 0 where
  waiting : (w : Message) → w is_in p.waiting → (w is_in s.panel.waiting) ⊎ (w is_in s.handed) ⊎ (lapsed s.panel w.deadline ≡ true)
  marks : (source : ℕ) → get_or p.marks source 0 ≤ get_or s.panel.marks source 0

hand_stays : (p : Panel) (m : Message) → Stays p (hand_and_settle p m)
unfolding hand_and_settle hand
hand_stays p m =
    let S = settle_settles (hand p m) in
    record {
      waiting = λ w i. ⊎_elim (λ k. inl k) (λ k. inr (inl (later k))) (S.kept w i);
      marks = λ source. omega (arith, S.marks source, raise-le p.marks m source);
    }

list_stays : (p : Panel) (ms : List Message) → ((w : Message) → w is_in p.waiting → w is_in ms) → Stays p (settle (with_waiting p ms))
list_stays p ms all =
    let S = settle_settles (with_waiting p ms) in
    record { waiting = λ w i. ⊎_elim (λ k. inl k) (λ k. inr (inl k)) (S.kept w (all w i)); marks = S.marks }

effect_stays : (p : Panel) (call : Call) → Stays p (effect_of p call)
unfolding sending receiving clocking setting_back
effect_stays p (send payload lifetime output buffer) =
    let S = hand_stays (emptied p) (new_message p payload lifetime) in record { waiting = S.waiting; marks = S.marks }
effect_stays p (receive bytes output) =
    let m = message_from bytes in
    cond_both (Stays p) (ready p m) (λ _. hand_stays p m) (λ _. list_stays p (p.waiting ++ (m ∷ [])) (λ w i. Memᴰ.append_left _ i))
effect_stays p (clock time output) =
    let q = with_time p time in
    let S = settle_settles (drop_lapsed q) in
    record {
      waiting = λ w i.
          ⊎_elim (λ k. ⊎_elim (λ a. inl a) (λ b. inr (inl b)) (S.kept w k))
          (λ lt. inr (inr (limit-lapsed _ w.deadline (omega (arith, lt, S.limit_stays, limit-with_waiting q (drop_lapsed q).waiting)))))
          (alive_is_in q p.waiting w i);
      marks = S.marks;
    }
effect_stays p (set_back reading) = record { waiting = λ w i. inl i; marks = λ source. omega arith }

-- a refused call gives back the record as it was
module _ (p : Panel) (call : Call) where
  waiting_stays : (w : Message) → w is_in p.waiting
      → let after = (defined p call).panel in
      (w is_in after.waiting) ⊎ (w is_in (effect_of p call).handed) ⊎ (lapsed after w.deadline ≡ true)
  unfolding refused done
  waiting_stays w i =
      defined_both (λ r. (w is_in r.panel.waiting) ⊎ (w is_in (effect_of p call).handed) ⊎ (lapsed r.panel w.deadline ≡ true)) p call
      (λ _ _. inl i) (λ _. (effect_stays p call).waiting w i)

  marks_stay : (source : ℕ) → get_or p.marks source 0 ≤ get_or (defined p call).panel.marks source 0
  unfolding refused done
  marks_stay source =
      defined_both (λ r. get_or p.marks source 0 ≤ get_or r.panel.marks source 0) p call (λ _ _. omega arith) (λ _. (effect_stays p call).marks source)

-- ---- all of it, at any panel

pub far_ahead : (p : Panel) → FarAhead p
far_ahead p =
    record {
      taken_near = taken_near p;
      refused_far = refused_far p;
      never_late = never_late p;
      send_never = send_never p;
      clock_never = clock_never p;
      set_back_never = set_back_never p;
      waiting_stays = waiting_stays p;
      marks_stay = marks_stay p;
    }

-- ---- after every list

-- What is before a message in cause is nearer than it: where the one is not too far ahead at a panel, the other is not either. So nothing that
-- a message waits for is refused with 32 at the time at which the message is taken. (After a set back it may be.)
pub causes_near : (list : List Made) → Lawful list → AllPromised list → (panel : ℕ) (x y : Name) → Before (sends list) x y
    → too_far_ahead (record_at panel list) y.deadline ≡ false → too_far_ahead (record_at panel list) x.deadline ≡ false
unfolding too_far_ahead
causes_near list lawful promised panel x y before near =
    let sum = (record_at panel list).time + farthest_ahead in
    le-ltb sum x.deadline
    (omega (arith, before_rises (list_sound list lawful promised).sends_sound before, ltb-false sum y.deadline near))
