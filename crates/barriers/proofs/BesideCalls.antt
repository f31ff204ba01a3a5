-- A call at a panel of either make, beside the same call at one of the old make whose barrier is nowhere lower: the same answer, the same log
-- records, no longer frame. Assumes nothing.
use Prim.Native.Nat.{ℕ, zero, suc, ◌+◌, ◌≤◌}
use native.Mathlib.Omega.{arith}
use mathlib.Core.Path.{◌≡◌, refl, sym, ap, ◌∙◌}
use mathlib.Core.Bool.{Bool, true, false, cond, not}
use mathlib.Core.List.{List, [], ◌∷◌, ◌++◌}
use lib.ListN.{length, get_or}
use Rattle.numbers.specs.Buffer.{over}
use Rattle.frame.specs.Message.{Message, present}
use Rattle.frame.specs.Refusal.{first_of}
use Rattle.frame.specs.Reading.{message_from}
use Rattle.frame.proofs.EachNumber.{lt-each_below}
use Rattle.frame.proofs.Places.{length-frame}
use Rattle.rules.specs.Sizes.{width}
use Rattle.rules.specs.Panel.{Make, Panel, none64, lapsed, met, ready}
use Rattle.rules.specs.Settling.{with_waiting, hand_then, settle}
use Rattle.rules.specs.Calls.{hand_and_settle, send_deadline, new_message, emptied, sending, receiving, with_time, alive, drop_lapsed, clocking, setting_back}
use Rattle.rules.specs.Refusals.{some_above, broken, too_far_ahead, send_checks, message_checks, receive_checks, clock_checks, set_back_checks}
use Rattle.rules.specs.Results.{Call, send, receive, clock, set_back, output_of, buffer_of, checks_of, effect_of, frame_of, Result, refused, done, unless, defined}
use Rattle.rules.proofs.Missed.{missed-none}
use Rattle.barriers.specs.Barriers.{with_barrier}
use Rattle.barriers.proofs.BesideOld.{Beside, beside_emptied, BesideSettled, hand_then_beside, settle_beside}

-- ---- what a call does

alive_beside : (p : Panel) (make : Make) (b : List ℕ) (ms : List Message) → alive (with_barrier p make b) ms ≡ alive p ms
unfolding alive lapsed
alive_beside p make b [] = refl
alive_beside p make b (m ∷ ms) = ap (λ (l : List Message). cond (lapsed p m.deadline) [] (m ∷ []) ++ l) (alive_beside p make b ms)

module _ (p : Panel) (make : Make) (b : List ℕ) (B : Beside p b) where
  abbrev q : Panel
  q = with_barrier p make b

  sending_beside : (payload : List ℕ) (lifetime : ℕ) → BesideSettled make (sending p payload lifetime) (sending q payload lifetime)
  unfolding sending hand_and_settle new_message send_deadline
  sending_beside payload lifetime =
      hand_then_beside settle settle_beside (emptied p) make none64 (beside_emptied p b B) (new_message p payload lifetime) b
      (missed-none _ _ _ b (λ k. omega (arith, B.at_most k, B.below_mark k)) ∙ sym (missed-none _ _ _ p.barrier B.below_mark))

  receiving_beside : (m : Message) → BesideSettled make (receiving p m) (receiving q m)
  unfolding receiving hand_and_settle ready met lapsed
  receiving_beside m = go (ready p m)
    where
      go : (r : Bool) → BesideSettled make (cond r (hand_then settle p m) (settle (with_waiting p (p.waiting ++ (m ∷ [])))))
          (cond r (hand_then settle q m) (settle (with_waiting q (p.waiting ++ (m ∷ [])))))
      go true = hand_then_beside settle settle_beside p make b B m m.entries refl
      go false = settle_beside (with_waiting p (p.waiting ++ (m ∷ []))) make b B

  clocking_beside : (time : ℕ) → BesideSettled make (clocking p time) (clocking q time)
  unfolding clocking
  clocking_beside time =
      rw (alive_beside (with_time p time) make b p.waiting)
      (settle_beside (drop_lapsed (with_time p time)) make b B)

  setting_back_beside : (reading : ℕ) → BesideSettled make (setting_back p reading) (setting_back q reading)
  unfolding setting_back
  setting_back_beside reading = record { barrier = b; panel = refl; beside = B; logged = refl; count = refl }

  effect_beside : (call : Call) → BesideSettled make (effect_of p call) (effect_of q call)
  effect_beside (send payload lifetime output buffer) = sending_beside payload lifetime
  effect_beside (receive bytes output) = receiving_beside (message_from bytes)
  effect_beside (clock time output) = clocking_beside time
  effect_beside (set_back reading) = setting_back_beside reading

  -- ---- its checks

  within : (ns : List ℕ) → ((k : ℕ) → get_or ns k 0 ≤ p.high) → some_above p.high ns ≡ false
  within ns le = ap not (lt-each_below (p.high + 1) ns (λ k _. omega (arith, le k)))

  broken_beside : broken q ≡ broken p
  unfolding broken
  broken_beside = rw (within b (λ k. omega (arith, B.at_most k, B.below_high k)), within p.barrier B.below_high)

  checks_beside : (call : Call) → checks_of q call ≡ checks_of p call
  unfolding send_checks receive_checks clock_checks set_back_checks message_checks send_deadline lapsed too_far_ahead ready met
  checks_beside (send payload lifetime output buffer) = rw broken_beside
  checks_beside (receive bytes output) = rw broken_beside
  checks_beside (clock time output) = rw broken_beside
  checks_beside (set_back reading) = rw broken_beside

-- ---- its frame

present-le : (es fs : List ℕ) → ((k : ℕ) → get_or es k 0 ≤ get_or fs k 0) → length (present es) ≤ length (present fs)
unfolding present
present-le [] fs le = omega arith
present-le (zero ∷ es) [] le = present-le es [] (λ k. le (suc k))
present-le (suc e ∷ es) [] le = absurd (omega (arith, le 0))
present-le (zero ∷ es) (zero ∷ fs) le = present-le es fs (λ k. le (suc k))
present-le (zero ∷ es) (suc f ∷ fs) le = omega (arith, present-le es fs (λ k. le (suc k)))
present-le (suc e ∷ es) (zero ∷ fs) le = absurd (omega (arith, le 0))
present-le (suc e ∷ es) (suc f ∷ fs) le = omega (arith, present-le es fs (λ k. le (suc k)))

frame_beside : (p : Panel) (make : Make) (b : List ℕ) → Beside p b → (call : Call) → length (frame_of (with_barrier p make b) call) ≤ length (frame_of p call)
unfolding new_message send_deadline
frame_beside p make b B (send payload lifetime output buffer) =
    omega (
      arith,
      length-frame width (new_message (with_barrier p make b) payload lifetime),
      length-frame width (new_message p payload lifetime),
      present-le b p.barrier B.at_most,
    )
frame_beside p make b B (receive bytes output) = omega arith
frame_beside p make b B (clock time output) = omega arith
frame_beside p make b B (set_back reading) = omega arith

-- ---- its result

pub record BesideResult (make : Make) (r t : Result) : Type 0 where
  pub number : t.number ≡ r.number
  pub count : t.count ≡ r.count
  pub output : t.output ≡ r.output
  pub frame : t.frame_length ≤ r.frame_length
  pub barrier : List ℕ
  pub panel : t.panel ≡ with_barrier r.panel make barrier
  pub beside : Beside r.panel barrier

pub defined_beside : (p : Panel) (make : Make) (b : List ℕ) → Beside p b → (call : Call) → BesideResult make (defined p call) (defined (with_barrier p make b) call)
unfolding defined unless refused done
defined_beside p make b B call = rw (checks_beside p make b B call) (go (first_of (checks_of p call)))
  where
    q : Panel
    q = with_barrier p make b

    go : (n : ℕ) → BesideResult make
        (unless n (refused p (output_of call) (buffer_of call)) (done (effect_of p call) (output_of call) (frame_of p call) (buffer_of call)))
        (unless n (refused q (output_of call) (buffer_of call)) (done (effect_of q call) (output_of call) (frame_of q call) (buffer_of call)))
    go zero =
        let E = effect_beside p make b B call in
        record {
          number = refl;
          count = E.count;
          output = ap (over (output_of call) 0) E.logged;
          frame = frame_beside p make b B call;
          barrier = E.barrier;
          panel = E.panel;
          beside = E.beside;
        }
    go (suc n) = record { number = refl; count = refl; output = refl; frame = omega arith; barrier = b; panel = refl; beside = B }
