-- What the floor means, when it decides nothing, and what set-back calls do. Assumes nothing.
use Prim.Native.Nat.{ℕ, min, ◌≤◌}
use native.Mathlib.Decide.{ℕ_discrete}
use native.Mathlib.Omega.{arith}
use mathlib.Core.Path.{◌≡◌, refl, sym, ◌∙◌, subst, subst⁻¹}
use mathlib.Core.Logic.{◌⊎◌, inl, inr, ⊎_elim, by_cases, ◌≢◌}
use mathlib.Core.Bool.{Bool, true, false, not, ◌&&◌, true≢false}
use mathlib.Core.List.{List, [], ◌∷◌, ◌++◌}
use lib.Dec.{eqb}
use borrow.Author.Tests.{eqb-true, eq-eqb}
use Rattle.frame.specs.Refusal.{first_of}
use Rattle.frame.specs.Reading.{message_from}
use Rattle.frame.proofs.Conjunction.{and_both}
use Rattle.rules.specs.Panel.{Name, Panel, ready}
use Rattle.rules.specs.Handing.{hand}
use Rattle.rules.specs.Settling.{Settled, with_waiting, settle}
use Rattle.rules.specs.Calls.{hand_and_settle, new_message, emptied, sending, receiving, with_time, drop_lapsed, clocking, setting_back}
use Rattle.rules.specs.Refusals.{broken, set_back_checks}
use Rattle.rules.specs.Results.{Call, send, receive, clock, set_back, effect_of, Result, refused, done, defined}
use Rattle.rules.specs.Lists.{Made, on, record_at, given_to, time_after, time_at, Sent, sends, Lawful, AllPromised}
use Rattle.rules.specs.Lapsing.{entries_sent, mark_in, floor_handed, floor_after, floor_at}
use Rattle.rules.proofs.Booleans.{not-true, cond_both}
use Rattle.rules.proofs.Ready.{dead_floor}
use Rattle.rules.proofs.Missed.{missed-lapsed}
use Rattle.rules.proofs.Settling.{settle_induction}
use Rattle.rules.proofs.Results.{defined_both, defined-number}
use Rattle.rules.proofs.Checks.{clock_passed}
use Rattle.rules.proofs.Sites.{Site, site_at_here, site_at_other}
use Rattle.rules.proofs.Steps.{ListSound}
use Rattle.rules.proofs.Reached.{list_sound}
use Rattle.floors.specs.Floors.{SettingBack, FloorMeaning, is_set_back, never_set_back, Idle, IdleFloor}

-- ---- at any panel

-- no call lowers the floor
settle_floor : (p : Panel) → p.floor ≤ (settle p).panel.floor
unfolding hand
settle_floor = settle_induction (λ p s. p.floor ≤ s.panel.floor) (λ p unready. omega arith) (λ p place rest lt r below. omega (arith, below))

effect_floor : (p : Panel) (call : Call) → p.floor ≤ (effect_of p call).panel.floor
unfolding sending receiving clocking setting_back hand_and_settle hand
effect_floor p (send payload lifetime output buffer) = omega (arith, settle_floor (hand (emptied p) (new_message p payload lifetime)))
effect_floor p (receive bytes output) =
    let m = message_from bytes in
    cond_both (λ (s : Settled). p.floor ≤ s.panel.floor) (ready p m) (λ _. omega (arith, settle_floor (hand p m)))
    (λ _. settle_floor (with_waiting p (p.waiting ++ (m ∷ []))))
effect_floor p (clock time output) = settle_floor (drop_lapsed (with_time p time))
effect_floor p (set_back reading) = omega arith

-- the only check is that of 26
one_check : (b : Bool) → (first_of ((b, 26) ∷ []) ≡ 0) ⊎ (first_of ((b, 26) ∷ []) ≡ 26)
unfolding first_of
one_check true = inr refl
one_check false = inl refl

only_26 : (p : Panel) (reading : ℕ) → ((defined p (set_back reading)).number ≡ 0) ⊎ ((defined p (set_back reading)).number ≡ 26)
unfolding set_back_checks
only_26 p reading = rw (defined-number p (set_back reading)) (one_check (broken p))

pub setting_back_lem : (p : Panel) → SettingBack p
unfolding refused done setting_back
setting_back_lem p =
    record {
      time_alone = λ reading.
          defined_both (λ r. r.number ≡ 0 → r.panel ≡ with_time p (min p.time reading)) p (set_back reading)
          (λ n e z. absurd (omega (arith, z))) (λ e z. refl);
      hands_nothing = λ reading. defined_both (λ r. r.count ≡ 0) p (set_back reading) (λ n e. refl) (λ e. refl);
      only_26 = only_26 p;
      floor_stays = λ call. defined_both (λ r. p.floor ≤ r.panel.floor) p call (λ n e. omega arith) (λ e. effect_floor p call);
    }

-- ---- after every list

module _ (list : List Made) (lawful : Lawful list) (promised : AllPromised list) (panel : ℕ) where
  L : ListSound list
  L = list_sound list lawful promised

  -- the floor of the record is the one counted
  pub floor_counted : (record_at panel list).floor ≡ floor_at panel list
  floor_counted = (L.sites panel).floor

  pub floor_meaning : FloorMeaning list panel
  floor_meaning =
      let G = L.sites panel in
      record {
        at_least = λ x n i b.
            ⊎_elim (λ a. inl a) (λ d. inr (omega (arith, dead_floor (record_at panel list) x.deadline d, G.floor)))
            (G.sound.log_sound.whole n x i b);
        largest = λ above.
            let (x, n, e, i, b, out) = G.sound.missing (omega (arith, G.floor)) in
            (x, n, e ∙ G.floor, i, b, out);
      }

-- ---- where no set-back call was made

below_after : (sent : List Sent) (time floor : ℕ) (log handed : List Name) → IdleFloor floor time → IdleFloor (floor_after sent time floor log handed) time
unfolding floor_after floor_handed
below_after sent time floor log [] below = below
below_after sent time floor log (n ∷ handed) below =
    below_after sent time (floor_handed sent time floor log n) (log ++ (n ∷ [])) handed (omega (arith, below, missed-lapsed time floor (mark_in log) (entries_sent sent n)))

-- a call other than a set-back call does not lower the time
time_rises : (p : Panel) (call : Call) (time : ℕ) → is_set_back call ≡ false → p.time ≡ time → time ≤ time_after time call (defined p call)
unfolding time_after
time_rises p (send payload lifetime output buffer) time other same = omega arith
time_rises p (receive bytes output) time other same = omega arith
time_rises p (clock reading output) time other same =
    cond_both (λ t. time ≤ t) (eqb (defined p (clock reading output)).number 0)
    (λ e.
    let passed = sym (defined-number p (clock reading output)) ∙ eqb-true (defined p (clock reading output)).number 0 e in
    omega (arith, (clock_passed p reading output passed).later))
    (λ _. omega arith)
time_rises p (set_back reading) time other same = absurd (true≢false other)

below_time : (list : List Made) → Lawful list → AllPromised list → (panel : ℕ) → never_set_back panel list ≡ true → IdleFloor (floor_at panel list) (time_at panel list)
unfolding never_set_back floor_at time_at
below_time [] lawful promised panel never = omega arith
below_time (last ∷ earlier) (given, lawful) (promise, promised) panel never =
    let both = and_both _ _ never in
    let before = below_time earlier lawful promised panel both.1 in
    by_cases (ℕ_discrete panel last.at) (here both.0 before) (elsewhere before)
  where
    elsewhere : IdleFloor (floor_at panel earlier) (time_at panel earlier) → panel ≢ last.at → IdleFloor (floor_at panel (last ∷ earlier)) (time_at panel (last ∷ earlier))
    elsewhere before other = subst⁻¹ (λ (s : Site). IdleFloor s.floor s.time) (site_at_other panel last earlier other) before

    here : not (on panel last && is_set_back last.call) ≡ true → IdleFloor (floor_at panel earlier) (time_at panel earlier) → panel ≡ last.at
        → IdleFloor (floor_at panel (last ∷ earlier)) (time_at panel (last ∷ earlier))
    here clear before e =
        let p = given_to last.at last.make earlier in
        let time = time_at last.at earlier in
        let other : is_set_back last.call ≡ false =
        not-true _ (subst (λ (b : Bool). not (b && is_set_back last.call) ≡ true) (eq-eqb panel last.at e) clear) in
        let rises : time ≤ time_after time last.call last.result =
        subst⁻¹ (λ (r : Result). time ≤ time_after time last.call r) promise
        (time_rises p last.call time other ((list_sound earlier lawful promised).sites last.at).time) in
        let below : IdleFloor (floor_at last.at earlier) time = subst (λ (k : ℕ). IdleFloor (floor_at k earlier) (time_at k earlier)) e before in
        subst⁻¹ (λ (k : ℕ). IdleFloor (floor_at k (last ∷ earlier)) (time_at k (last ∷ earlier))) e
        (subst⁻¹ (λ (s : Site). IdleFloor s.floor s.time) (site_at_here last earlier)
        (below_after (sends (last ∷ earlier)) _ _ _ _ (omega (arith, rises, below))))

pub floor_idle : (list : List Made) → Lawful list → AllPromised list → (panel : ℕ) → never_set_back panel list ≡ true → Idle list panel
floor_idle list lawful promised panel never n some =
    let below = below_time list lawful promised panel never in
    (⊎_elim (λ lt. lt) (λ le. omega (arith, le, below, some)), λ lt. inl lt)
