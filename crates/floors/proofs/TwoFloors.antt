-- Lapsed, handing and settling at two records that differ in their floors alone, where both decide nothing. Assumes nothing.
use Prim.Native.Nat.{ℕ, zero, suc, max}
use native.Mathlib.Omega.{arith}
use mathlib.Core.Path.{◌≡◌, refl, ap}
use mathlib.Core.Bool.{Bool, true, false, cond, ◌||◌}
use mathlib.Core.Option.{Option, none, some}
use mathlib.Core.List.{List, [], ◌∷◌, ◌++◌}
use lib.ListN.{length, get_or}
use lib.Dec.{leb}
use Rattle.frame.specs.Message.{Message}
use Rattle.rules.specs.Panel.{Make, old_make, new_make, Panel, has_lapsed, lapsed, met, each_panel, ready}
use Rattle.rules.specs.Handing.{barrier_for, missed_at, hand}
use Rattle.rules.specs.Settling.{chosen, choice, without, with_waiting, Settled, waiting_at, hand_then, go_on, settle_in, settle}
use Rattle.rules.specs.Calls.{alive}
use Rattle.rules.specs.Cases.{with_floor}
use Rattle.rules.proofs.Missed.{has_lapsed-true, has_lapsed-false, missed-lapsed}
use Rattle.floors.specs.Floors.{IdleFloor}

-- ---- lapsed

idle_lapsed : (time f g deadline : ℕ) → IdleFloor f time → IdleFloor g time → has_lapsed time g deadline ≡ has_lapsed time f deadline
idle_lapsed time f g deadline idle-f idle-g = go (has_lapsed time g deadline) refl (has_lapsed time f deadline) refl
  where
    go : (b : Bool) → has_lapsed time g deadline ≡ b → (c : Bool) → has_lapsed time f deadline ≡ c → b ≡ c
    go true e true d = refl
    go true e false d =
        let (due, above) = has_lapsed-false time f deadline d in absurd (omega (arith, has_lapsed-true time g deadline e, idle-g))
    go false e true d =
        let (due, above) = has_lapsed-false time g deadline e in absurd (omega (arith, has_lapsed-true time f deadline d, idle-f))
    go false e false d = refl

-- both floors of a record decide nothing
pub record BothIdle (p : Panel) (floor : ℕ) : Type 0 where
  pub own : IdleFloor p.floor p.time
  pub other : IdleFloor floor p.time

module _ (p : Panel) (floor : ℕ) (I : BothIdle p floor) where
  abbrev q : Panel
  q = with_floor floor p

  pub lapsed_same : (deadline : ℕ) → lapsed q deadline ≡ lapsed p deadline
  unfolding lapsed
  lapsed_same deadline = idle_lapsed p.time p.floor floor deadline I.own I.other

  pub ready_same : (m : Message) → ready q m ≡ ready p m
  unfolding ready met
  ready_same m = λ i. each_panel 64
      (λ panel. leb (get_or m.entries panel 0) (get_or p.marks panel 0) || lapsed_same (get_or m.entries panel 0) i)

  pub alive_same : (ms : List Message) → alive q ms ≡ alive p ms
  unfolding alive
  alive_same [] = refl
  alive_same (m ∷ ms) = λ i. cond (lapsed_same m.deadline i) [] (m ∷ []) ++ alive_same ms i

  choice_same : (ms : List Message) → choice q ms ≡ choice p ms
  unfolding choice
  choice_same [] = refl
  choice_same (m ∷ ms) = λ i. chosen (ready_same m i) m ms (choice_same ms i)

  -- ---- handing

  -- which barrier entries are removed does not depend on the floor
  barrier_same : (make : Make) (m : Message) → barrier_for make q m ≡ barrier_for make p m
  unfolding barrier_for
  barrier_same old_make m = refl
  barrier_same new_make m = refl

  hand_same : (m : Message) → hand q m ≡ with_floor (max floor (missed_at q m.entries)) (hand p m)
  unfolding hand
  hand_same m = rw (barrier_same p.make m)

  hand_idle : (m : Message) → BothIdle (hand p m) (max floor (missed_at q m.entries))
  unfolding hand
  hand_idle m =
      record {
        own = omega (arith, I.own, missed-lapsed p.time p.floor (λ panel. get_or p.marks panel 0) m.entries);
        other = omega (arith, I.other, missed-lapsed p.time floor (λ panel. get_or p.marks panel 0) m.entries);
      }

-- ---- settling

pub record SettledAlike (s t : Settled) : Type 0 where
  pub floor : ℕ
  pub panel : t.panel ≡ with_floor floor s.panel
  pub idle : BothIdle s.panel floor
  pub handed : t.handed ≡ s.handed

abbrev Settler : (Panel → Settled) → Type 0
Settler settler = (p : Panel) (floor : ℕ) → BothIdle p floor → SettledAlike (settler p) (settler (with_floor floor p))

pub hand_then_alike : (settler : Panel → Settled) → Settler settler → (p : Panel) (floor : ℕ) → BothIdle p floor → (m : Message)
    → SettledAlike (hand_then settler p m) (hand_then settler (with_floor floor p) m)
hand_then_alike settler settles p floor I m =
    let risen = max floor (missed_at (with_floor floor p) m.entries) in
    let rest : SettledAlike (settler (hand p m)) (settler (hand (with_floor floor p) m)) =
    rw (hand_same p floor I m) (settles (hand p m) risen (hand_idle p floor I m)) in
    record { floor = rest.floor; panel = rest.panel; idle = rest.idle; handed = ap (λ (l : List Message). m ∷ l) rest.handed }

settle_in_alike : (n : ℕ) → Settler (settle_in n)
unfolding settle_in go_on
settle_in_alike zero p floor I = record { floor = floor; panel = refl; idle = I; handed = refl }
settle_in_alike (suc n) p floor I = rw (choice_same p floor I p.waiting) (go (settle_in_alike n) (choice p p.waiting))
  where
    go : Settler (settle_in n) → (o : Option ℕ) → SettledAlike (go_on (settle_in n) p o) (go_on (settle_in n) (with_floor floor p) o)
    go rest none = record { floor = floor; panel = refl; idle = I; handed = refl }
    go rest (some place) =
        hand_then_alike (settle_in n) rest (with_waiting p (without place p.waiting)) floor (record { own = I.own; other = I.other }) (waiting_at p place)

pub settle_alike : Settler settle
unfolding settle
settle_alike p floor I = settle_in_alike (length p.waiting) p floor I
