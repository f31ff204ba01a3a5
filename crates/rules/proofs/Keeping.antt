-- Settling keeps what holds of a panel. Assumes nothing.
use Prim.Native.Nat.{ℕ, ◌<◌}
use mathlib.Core.Path.{◌≡◌, refl, ap, ◌∙◌}
use mathlib.Core.Logic.{◌⊎◌, inl, inr, ⊎_elim}
use mathlib.Core.Bool.{true}
use mathlib.Core.List.Memᴰ
use mathlib.Core.List.Memᴰ.{head as first}
use mathlib.Core.List.{List, [], ◌∷◌, ◌++◌, map, append-nil}
use lib.ListN.{length}
use lib.Seq.{append_snoc}
use Rattle.frame.specs.Message.{Message}
use Rattle.rules.specs.Panel.{Name, name_of, Panel, ready}
use Rattle.rules.specs.Handing.{hand}
use Rattle.rules.specs.Settling.{without, with_waiting, Settled, waiting_at, settle}
use Rattle.rules.specs.Lists.{◌is_in◌, Sent}
use Rattle.rules.specs.Lapsing.{floor_handed, floor_after}
use Rattle.rules.proofs.WaitingList.{is_in_without, get_or_is_in, without_is_in, Distinct-without, Distinct-get_or}
use Rattle.rules.proofs.Settling.{NoneReady, hand_at, settle_induction}
use Rattle.rules.proofs.Ready.{limit, dead, limit-with_waiting, dead-with_waiting, ready-with_waiting}
use Rattle.rules.proofs.Cause.{SendsSound}
use Rattle.rules.proofs.Sound.{LogSound, SummarySound, WaitingSound, Missing, PanelSound}
use Rattle.rules.proofs.Floor.{hand_floor}
use Rattle.rules.proofs.Handing.{hand-ready}

-- the log after so many were handed
abbrev pub log_with : List Name → List Message → List Name
log_with log handed = log ++ map name_of handed

-- what a panel and its log become: sound again, the floor risen as it is counted, and each message that waited is in the log or waits still
pub record Keeps (ss : List Sent) (log : List Name) (p : Panel) (s : Settled) : Type 0 where
  pub sound : PanelSound ss (log_with log s.handed) s.panel
  pub floor : s.panel.floor ≡ floor_after ss p.time p.floor log (map name_of s.handed)
  pub rest : (w : Message) → w is_in p.waiting → (name_of w is_in log_with log s.handed) ⊎ (w is_in s.panel.waiting)

-- the record with another waiting list
pub sound_with_waiting : {ss : List Sent} {log : List Name} (p : Panel) (ms : List Message) → LogSound ss log (dead p)
    → SummarySound ss log p.marks p.barrier p.high → (0 < p.floor → Missing ss log p.floor) → WaitingSound ss log (limit p) ms
    → PanelSound ss log (with_waiting p ms)
sound_with_waiting p ms L K M W =
    record { log_sound = rw (dead-with_waiting p ms) L; summary = K; waits = rw (limit-with_waiting p ms) W; missing = M }

-- first m is handed, by a panel q that has time and floor of p, and all waiting messages of p but for m
pub keeps_hand : {ss : List Sent} {log : List Name} {p : Panel} {s : Settled} (q : Panel) (m : Message)
    → q.time ≡ p.time → (hand q m).floor ≡ floor_handed ss p.time p.floor log (name_of m)
    → ((w : Message) → w is_in p.waiting → (w ≡ m) ⊎ (w is_in q.waiting)) → Keeps ss (log ++ (name_of m ∷ [])) (hand q m) s
    → Keeps ss log p (record { panel = s.panel; handed = m ∷ s.handed })
unfolding hand floor_after
keeps_hand {ss} {log} {s = s} q m time floor others K =
    record {
      sound = rw (← append_snoc) K.sound;
      floor = K.floor ∙ (λ i. floor_after ss (time i) (floor i) (log ++ (name_of m ∷ [])) (map name_of s.handed));
      rest = λ w i. rw (← append_snoc)
          (⊎_elim (λ e. inl (Memᴰ.append_left _ (Memᴰ.append_right log (first (ap name_of e))))) (K.rest w) (others w i));
    }

module _ {ss : List Sent} (S : SendsSound ss) where
  -- the ready message at a place of the list leaves and is handed
  sound_hand_at : {log : List Name} (p : Panel) → PanelSound ss log p → (place : ℕ) → place < length p.waiting → ready p (waiting_at p place) ≡ true
      → PanelSound ss (log ++ (name_of (waiting_at p place) ∷ [])) (hand_at p place)
  sound_hand_at {log} p G place lt r =
      let W = G.waits in
      let i = get_or_is_in place p.waiting _ lt in
      let rest = without place p.waiting in
      hand-ready S
      (sound_with_waiting p rest G.log_sound G.summary G.missing
      (record {
        sent = λ w k. W.sent w (is_in_without place _ w k);
        alive = λ w k. W.alive w (is_in_without place _ w k);
        unlogged = λ w k. W.unlogged w (is_in_without place _ w k);
        distinct = Distinct-without place _ W.distinct;
      }))
      (waiting_at p place) (W.sent _ i) (rw (limit-with_waiting p rest) (W.alive _ i)) (W.unlogged _ i) (ready-with_waiting p rest _ ∙ r)
      (Distinct-get_or place _ _ lt W.distinct)

  pub settle_keeps : (p : Panel) (log : List Name) → PanelSound ss log p → Keeps ss log p (settle p)
  unfolding floor_after
  settle_keeps = settle_induction (λ p s. (log : List Name) → PanelSound ss log p → Keeps ss log p s) stop step
    where
      stop : (p : Panel) → NoneReady p → (log : List Name) → PanelSound ss log p → Keeps ss log p (record { panel = p; handed = [] })
      stop p unready log G = record { sound = rw append-nil G; floor = refl; rest = λ w i. inr i }

      step : (p : Panel) (place : ℕ) (rest : Settled) → place < length p.waiting → ready p (waiting_at p place) ≡ true
          → ((log : List Name) → PanelSound ss log (hand_at p place) → Keeps ss log (hand_at p place) rest)
          → (log : List Name) → PanelSound ss log p → Keeps ss log p (record { panel = rest.panel; handed = waiting_at p place ∷ rest.handed })
      step p place rest lt r below log G =
          let q = with_waiting p (without place p.waiting) in
          let sent = G.waits.sent _ (get_or_is_in place p.waiting _ lt) in
          keeps_hand q (waiting_at p place) refl (hand_floor S q G.summary (waiting_at p place) sent) (without_is_in place p.waiting _)
          (below _ (sound_hand_at p G place lt r))
