-- A call at two records that differ in their floors alone, where both decide nothing: the same answer and the same bytes. Assumes nothing.
use Prim.Native.Nat.{ℕ, zero, suc, ◌≤◌}
use native.Mathlib.Omega.{arith}
use mathlib.Core.Path.{◌≡◌, refl, sym, ap, ◌∙◌, subst⁻¹}
use mathlib.Core.Bool.{Bool, true, false, cond, true≢false}
use mathlib.Core.List.{List, [], ◌∷◌, ◌++◌}
use lib.ListN.{length}
use Rattle.numbers.specs.Buffer.{over}
use Rattle.frame.specs.Message.{Message}
use Rattle.frame.specs.Refusal.{first_of}
use Rattle.frame.specs.Reading.{message_from}
use Rattle.rules.specs.Panel.{Panel, ready}
use Rattle.rules.specs.Handing.{log_records}
use Rattle.rules.specs.Settling.{with_waiting, hand_then, settle}
use Rattle.rules.specs.Calls.{hand_and_settle, send_deadline, new_message, emptied, sending, receiving, with_time, drop_lapsed, clocking}
use Rattle.rules.specs.Refusals.{broken, too_far_ahead, send_checks, message_checks, receive_checks, clock_checks, set_back_checks}
use Rattle.rules.specs.Results.{Call, send, receive, clock, set_back, output_of, buffer_of, checks_of, effect_of, frame_of, Result, refused, done, unless, defined}
use Rattle.rules.specs.Cases.{with_floor}
use Rattle.rules.proofs.Checks.{clock_passed}
use Rattle.floors.specs.Floors.{is_set_back, IdleFloor, AlikeButFloor}
use Rattle.floors.proofs.TwoFloors.{BothIdle, lapsed_same, ready_same, alive_same, SettledAlike, hand_then_alike, settle_alike}

-- ---- a call

module _ (p : Panel) (floor : ℕ) (I : BothIdle p floor) where
  sending_alike : (payload : List ℕ) (lifetime : ℕ) → SettledAlike (sending p payload lifetime) (sending (with_floor floor p) payload lifetime)
  unfolding sending hand_and_settle new_message send_deadline
  sending_alike payload lifetime =
      hand_then_alike settle settle_alike (emptied p) floor (record { own = I.own; other = I.other }) (new_message p payload lifetime)

  receiving_alike : (m : Message) → SettledAlike (receiving p m) (receiving (with_floor floor p) m)
  unfolding receiving hand_and_settle
  receiving_alike m = rw (ready_same p floor I m) (go (ready p m))
    where
      go : (r : Bool) → SettledAlike (cond r (hand_then settle p m) (settle (with_waiting p (p.waiting ++ (m ∷ [])))))
          (cond r (hand_then settle (with_floor floor p) m) (settle (with_waiting (with_floor floor p) (p.waiting ++ (m ∷ [])))))
      go true = hand_then_alike settle settle_alike p floor I m
      go false = settle_alike (with_waiting p (p.waiting ++ (m ∷ []))) floor (record { own = I.own; other = I.other })

  clocking_alike : (time : ℕ) → p.time ≤ time → SettledAlike (clocking p time) (clocking (with_floor floor p) time)
  unfolding clocking
  clocking_alike time rises =
      let J : BothIdle (with_time p time) floor = record { own = omega (arith, I.own); other = omega (arith, I.other) } in
      rw (alive_same (with_time p time) floor J p.waiting)
      (settle_alike (drop_lapsed (with_time p time)) floor (record { own = J.own; other = J.other }))

  checks_same : (call : Call) → checks_of (with_floor floor p) call ≡ checks_of p call
  unfolding send_checks receive_checks clock_checks set_back_checks message_checks send_deadline broken too_far_ahead
  checks_same (send payload lifetime output buffer) = refl
  checks_same (receive bytes output) = rw (lapsed_same p floor I (message_from bytes).deadline, ready_same p floor I (message_from bytes))
  checks_same (clock time output) = refl
  checks_same (set_back reading) = refl

  effect_alike : (call : Call) → is_set_back call ≡ false → first_of (checks_of p call) ≡ 0 → SettledAlike (effect_of p call) (effect_of (with_floor floor p) call)
  effect_alike (send payload lifetime output buffer) other e = sending_alike payload lifetime
  effect_alike (receive bytes output) other e = receiving_alike (message_from bytes)
  effect_alike (clock time output) other e = clocking_alike time (clock_passed p time output e).later
  effect_alike (set_back reading) other e = absurd (true≢false other)

  frame_same : (call : Call) → frame_of (with_floor floor p) call ≡ frame_of p call
  unfolding new_message send_deadline
  frame_same (send payload lifetime output buffer) = refl
  frame_same (receive bytes output) = refl
  frame_same (clock time output) = refl
  frame_same (set_back reading) = refl

-- ---- its result

module _ (p : Panel) (floor : ℕ) (I : BothIdle p floor) (call : Call) where
  -- the result, from the number of the first check that applies, and the same at the other record
  abbrev result : Panel → ℕ → Result
  result r n =
      unless n (refused r (output_of call) (buffer_of call)) (done (effect_of r call) (output_of call) (frame_of p call) (buffer_of call))

  defined_same : defined (with_floor floor p) call ≡ result (with_floor floor p) (first_of (checks_of p call))
  unfolding defined
  defined_same = rw (checks_same p floor I call, frame_same p floor I call)

  results_alike : is_set_back call ≡ false → (n : ℕ) → first_of (checks_of p call) ≡ n → AlikeButFloor (result p n) (result (with_floor floor p) n)
  unfolding unless refused done
  results_alike other zero e =
      let E = effect_alike p floor I call other e in
      let back = ap (λ (r : Panel). r.floor) E.panel in
      let time = ap (λ (r : Panel). r.time) E.panel in
      record {
        number = refl;
        panel = E.panel ∙ ap (λ (f : ℕ). with_floor f (effect_of p call).panel) (sym back);
        count = ap (λ (l : List Message). length l) E.handed;
        output = ap (λ (l : List Message). over (output_of call) 0 (log_records l)) E.handed;
        frame_length = refl;
        buffer = refl;
        idle = E.idle.own;
        idle_too = omega (arith, E.idle.other, back, time);
      }
  results_alike other (suc n) e =
      record {
        number = refl;
        panel = refl;
        count = refl;
        output = refl;
        frame_length = refl;
        buffer = refl;
        idle = I.own;
        idle_too = I.other;
      }

-- At two records that differ in their floors alone, where both decide nothing, a call other than a set-back call does the same.
pub no_floor_needed : (p : Panel) (floor : ℕ) → IdleFloor p.floor p.time → IdleFloor floor p.time → (call : Call) → is_set_back call ≡ false
    → AlikeButFloor (defined p call) (defined (with_floor floor p) call)
unfolding defined
no_floor_needed p floor idle idle_too call other =
    let I : BothIdle p floor = record { own = idle; other = idle_too } in
    subst⁻¹ (AlikeButFloor (defined p call)) (defined_same p floor I call) (results_alike p floor I call other (first_of (checks_of p call)) refl)
