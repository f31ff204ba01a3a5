-- Messages that are handed one after another, and what they make of a record but for its waiting list. Assumes nothing.
use Prim.Native.Nat.{ℕ, ◌≤◌, ◌<◌, max}
use native.Mathlib.Decide.{dec_lt}
use native.Mathlib.Omega.{arith}
use mathlib.Core.Path.{◌≡◌, refl, ap, ◌∙◌}
use mathlib.Core.Logic.{◌⊎◌, inl, inr, ⊎_elim, by_cases}
use mathlib.Core.Bool.{true}
use mathlib.Core.List.Memᴰ.{head as first}
use mathlib.Core.List.Memᴰ.{tail as later}
use mathlib.Core.List.{List, [], ◌∷◌, ◌++◌}
use lib.ListN.{length}
use Rattle.frame.specs.Message.{Message}
use Rattle.rules.specs.Panel.{Make, old_make, new_make, Panel, of_make, ready}
use Rattle.rules.specs.Handing.{raise, barrier_for, missed_at, hand}
use Rattle.rules.specs.Settling.{without, with_waiting, Settled, waiting_at, settle}
use Rattle.rules.specs.Calls.{hand_and_settle, receiving}
use Rattle.rules.specs.Lists.{◌is_in◌}
use Rattle.rules.proofs.Booleans.{cond_both}
use Rattle.rules.proofs.Ready.{limit, limit-hand}
use Rattle.rules.proofs.Settling.{NoneReady, hand_at, settle_induction}

-- the record without its waiting list
abbrev pub bare : Panel → Panel
bare p = with_waiting p []

-- these are handed, one after another
unfoldable pub hand_all : Panel → List Message → Panel
hand_all p [] = p
hand_all p (m ∷ ms) = hand_all (hand p m) ms

pub hand_all-append : (p : Panel) (ms more : List Message) → hand_all p (ms ++ more) ≡ hand_all (hand_all p ms) more
unfolding hand_all
hand_all-append p [] more = refl
hand_all-append p (m ∷ ms) more = hand_all-append (hand p m) ms more

-- ---- what it leaves as it was

pub hand_all_own : (p : Panel) (ms : List Message) → (hand_all p ms).own ≡ p.own
unfolding hand_all hand
hand_all_own p [] = refl
hand_all_own p (m ∷ ms) = hand_all_own (hand p m) ms

pub hand_all_time : (p : Panel) (ms : List Message) → (hand_all p ms).time ≡ p.time
unfolding hand_all hand
hand_all_time p [] = refl
hand_all_time p (m ∷ ms) = hand_all_time (hand p m) ms

pub hand_all-limit : (p : Panel) (ms : List Message) → limit (hand_all p ms) ≡ limit p
unfolding hand_all
hand_all-limit p [] = refl
hand_all-limit p (m ∷ ms) = hand_all-limit (hand p m) ms ∙ limit-hand p m

pub hand_all-of_make : (make : Make) (p : Panel) (ms : List Message) → of_make make (hand_all (of_make make p) ms) ≡ hand_all (of_make make p) ms
unfolding hand_all hand
hand_all-of_make make p [] = refl
hand_all-of_make make p (m ∷ ms) = hand_all-of_make make (hand (of_make make p) m) ms

-- ---- the waiting list makes no difference to it

barrier_for-bare : (make : Make) (p : Panel) (m : Message) → barrier_for make p m ≡ barrier_for make (bare p) m
unfolding barrier_for
barrier_for-bare old_make p m = refl
barrier_for-bare new_make p m = refl

hand-bare : (p : Panel) (m : Message) → bare (hand p m) ≡ hand (bare p) m
unfolding hand
hand-bare p m =
    ap (λ (b : List ℕ).
    record {
      own = p.own;
      time = p.time;
      high = max p.high m.deadline;
      marks = raise p.marks m;
      barrier = raise b m;
      waiting = [];
      floor = max p.floor (missed_at p m.entries);
      make = p.make;
    }) (barrier_for-bare p.make p m)

-- ---- settling, and a receive, hand so

settle_hands : (p : Panel) → bare (settle p).panel ≡ hand_all (bare p) (settle p).handed
unfolding hand_all
settle_hands = settle_induction (λ p s. bare s.panel ≡ hand_all (bare p) s.handed) stop step
  where
    stop : (p : Panel) → NoneReady p → bare p ≡ bare p
    stop p unready = refl

    step : (p : Panel) (place : ℕ) (rest : Settled) → place < length p.waiting → ready p (waiting_at p place) ≡ true
        → bare rest.panel ≡ hand_all (bare (hand_at p place)) rest.handed
        → bare rest.panel ≡ hand_all (hand (bare p) (waiting_at p place)) rest.handed
    step p place rest lt r below =
        below ∙ ap (λ (q : Panel). hand_all q rest.handed) (hand-bare (with_waiting p (without place p.waiting)) (waiting_at p place))

pub receiving_hands : (p : Panel) (m : Message) → bare (receiving p m).panel ≡ hand_all (bare p) (receiving p m).handed
unfolding receiving hand_and_settle hand_all
receiving_hands p m =
    cond_both (λ (s : Settled). bare s.panel ≡ hand_all (bare p) s.handed) (ready p m)
    (λ _. settle_hands (hand p m) ∙ ap (λ (q : Panel). hand_all q (settle (hand p m)).handed) (hand-bare p m))
    (λ _. settle_hands (with_waiting p (p.waiting ++ (m ∷ []))))

-- ---- high

-- high is what it was, or the deadline of one of them; and it is at least each of these
pub record Highest (p : Panel) (ms : List Message) (high : ℕ) : Type 0 where
  pub one : (high ≡ p.high) ⊎ ((m : Message) × (m is_in ms) × (high ≡ m.deadline))
  pub at_least : p.high ≤ high
  pub each : (m : Message) → m is_in ms → m.deadline ≤ high

pub hand_all_high : (p : Panel) (ms : List Message) → Highest p ms (hand_all p ms).high
unfolding hand_all hand
hand_all_high p [] = record { one = inl refl; at_least = omega arith; each = λ m i. elim i [ ] }
hand_all_high p (m ∷ ms) = go (hand_all_high (hand p m) ms)
  where
    go : Highest (hand p m) ms (hand_all (hand p m) ms).high → Highest p (m ∷ ms) (hand_all (hand p m) ms).high
    go H =
        record {
          one =
              ⊎_elim (λ e.
              by_cases (dec_lt p.high m.deadline) (λ lt. inr (m, first refl, omega (arith, e))) (λ ge. inl (omega (arith, e))))
              (λ a. inr (a.0, later a.1, a.2)) H.one;
          at_least = omega (arith, H.at_least);
          each = each;
        }
      where
        each : (w : Message) → w is_in m ∷ ms → w.deadline ≤ (hand_all (hand p m) ms).high
        each w (first e) = rw e (omega (arith, H.at_least))
        each w (later i) = H.each w i
