-- Settling of any record: one step of it, an induction on it, and what follows. Assumes nothing.
use Prim.Native.Nat.{ℕ, zero, suc, ◌+◌, ◌≤◌, ◌<◌}
use native.Mathlib.Omega.{arith}
use mathlib.Core.Path.{◌≡◌, refl, ap, ◌∙◌}
use mathlib.Core.Logic.{◌⊎◌, inl, inr, ⊎_elim}
use mathlib.Core.Bool.{true, false}
use mathlib.Core.Option.{Option, none, some}
use mathlib.Core.List.Memᴰ
use mathlib.Core.List.Memᴰ.{head as first}
use mathlib.Core.List.Memᴰ.{tail as later}
use mathlib.Core.List.{List, [], ◌∷◌}
use lib.ListN.{length, get_or}
use Rattle.frame.specs.Message.{Message}
use Rattle.rules.specs.Panel.{Panel, ready}
use Rattle.rules.specs.Handing.{hand}
use Rattle.rules.specs.Settling.{choice, without, with_waiting, Settled, waiting_at, go_on, settle_in, settle}
use Rattle.rules.specs.Lists.{◌is_in◌}
use Rattle.rules.proofs.Ready.{limit, limit-hand, limit-with_waiting}
use Rattle.rules.proofs.Raise.{raise-le}
use Rattle.rules.proofs.Choice.{choice-none, choice-some}
use Rattle.rules.proofs.WaitingList.{is_in_without, get_or_is_in, without_is_in, length_without}

-- nothing that waits is ready
abbrev pub NoneReady : Panel → Type 0
NoneReady p = (w : Message) → w is_in p.waiting → ready p w ≡ false

-- the record after the message at a place left the list and was handed
abbrev pub hand_at : Panel → ℕ → Panel
hand_at p place = hand (with_waiting p (without place p.waiting)) (waiting_at p place)

length-hand_at : (p : Panel) (place : ℕ) → place < length p.waiting → suc (length (hand_at p place).waiting) ≡ length p.waiting
unfolding hand
length-hand_at p place lt = length_without place p.waiting lt

is_in_length : {w : Message} {ms : List Message} → w is_in ms → 0 < length ms
is_in_length (first e) = omega arith
is_in_length (later i) = omega arith

-- ---- by induction on settling: either nothing is ready, or one that is leaves and is handed, and the rest settles

module _ (P : Panel → Settled → Type 0) (stop : (p : Panel) → NoneReady p → P p (record { panel = p; handed = [] }))
    (step : (p : Panel) (place : ℕ) (rest : Settled) → place < length p.waiting → ready p (waiting_at p place) ≡ true → P (hand_at p place) rest
    → P p (record { panel = rest.panel; handed = waiting_at p place ∷ rest.handed })) where
  settle_in_induction : (n : ℕ) (p : Panel) → length p.waiting ≡ n → P p (settle_in n p)
  unfolding settle_in go_on
  settle_in_induction zero p e = stop p (λ w i. absurd (omega (arith, is_in_length i)))
  settle_in_induction (suc n) p e = go (settle_in_induction n) (choice p p.waiting) refl
    where
      go : ((q : Panel) → length q.waiting ≡ n → P q (settle_in n q)) → (o : Option ℕ) → choice p p.waiting ≡ o → P p (go_on (settle_in n) p o)
      go below none c = stop p (choice-none p p.waiting c)
      go below (some place) c =
          let (lt, r) = choice-some p p.waiting _ place c in
          step p place _ lt r (below (hand_at p place) (omega (arith, length-hand_at p place lt)))

  pub settle_induction : (p : Panel) → P p (settle p)
  unfolding settle
  settle_induction p = settle_in_induction (length p.waiting) p refl

-- ---- one step, as code takes it: by recursion on the record that is left, with no count

settle_by : ℕ → Panel → Option ℕ → Settled
settle_by zero p o = record { panel = p; handed = [] }
settle_by (suc n) p o = go_on (settle_in n) p o

settle_in_settle_by : (n : ℕ) (p : Panel) → settle_in n p ≡ settle_by n p (choice p p.waiting)
unfolding settle_in settle_by
settle_in_settle_by zero p = refl
settle_in_settle_by (suc n) p = refl

pub settle_step : (p : Panel) → settle p ≡ go_on settle p (choice p p.waiting)
unfolding settle settle_by go_on
settle_step p = settle_in_settle_by (length p.waiting) p ∙ go (length p.waiting) refl (choice p p.waiting) refl
  where
    go : (n : ℕ) → length p.waiting ≡ n → (o : Option ℕ) → choice p p.waiting ≡ o → settle_by n p o ≡ go_on settle p o
    go zero e none c = refl
    go zero e (some place) c = absurd (omega (arith, (choice-some p p.waiting (waiting_at p place) place c).0))
    go (suc n) e none c = refl
    go (suc n) e (some place) c =
        let lt = (choice-some p p.waiting (waiting_at p place) place c).0 in
        ap (λ k. let rest = settle_in k (hand_at p place) in record { panel = rest.panel; handed = waiting_at p place ∷ rest.handed })
        (omega (arith, length-hand_at p place lt))

-- ---- what settling of any record leaves

pub record Settles (p : Panel) (s : Settled) : Type 0 where
  pub own : s.panel.own ≡ p.own
  pub time : s.panel.time ≡ p.time
  pub limit_stays : limit s.panel ≡ limit p
  pub count : length s.panel.waiting + length s.handed ≡ length p.waiting
  pub left : (w : Message) → w is_in s.panel.waiting → w is_in p.waiting
  pub handed : (w : Message) → w is_in s.handed → w is_in p.waiting
  pub kept : (w : Message) → w is_in p.waiting → (w is_in s.panel.waiting) ⊎ (w is_in s.handed)
  pub marks : (source : ℕ) → get_or p.marks source 0 ≤ get_or s.panel.marks source 0
  pub settled : NoneReady s.panel

-- Settling ends with nothing ready waiting; what it leaves and what it hands was waiting, and all that was; no mark falls, and what has lapsed stays
-- what it was.
pub settle_settles : (p : Panel) → Settles p (settle p)
unfolding hand
settle_settles = settle_induction Settles stop step
  where
    stop : (p : Panel) → NoneReady p → Settles p (record { panel = p; handed = [] })
    stop p unready =
        record {
          own = refl;
          time = refl;
          limit_stays = refl;
          count = omega arith;
          left = λ w i. i;
          handed = λ w i. elim i [ ];
          kept = λ w i. inl i;
          marks = λ source. omega arith;
          settled = unready;
        }

    step : (p : Panel) (place : ℕ) (rest : Settled) → place < length p.waiting → ready p (waiting_at p place) ≡ true
        → Settles (hand_at p place) rest → Settles p (record { panel = rest.panel; handed = waiting_at p place ∷ rest.handed })
    step p place rest lt r S =
        record {
          own = S.own;
          time = S.time;
          limit_stays =
              let q = with_waiting p (without place p.waiting) in
              S.limit_stays ∙ limit-hand q (waiting_at p place) ∙ limit-with_waiting p (without place p.waiting);
          count = omega (arith, S.count, length-hand_at p place lt);
          left = λ w i. is_in_without place p.waiting w (S.left w i);
          handed = λ w i. one w i (S.handed w);
          kept = λ w i. ⊎_elim (λ e. inr (first e)) (λ k. ⊎_elim (λ a. inl a) (λ b. inr (later b)) (S.kept w k)) (without_is_in place p.waiting _ w i);
          marks = λ source. omega (arith, S.marks source, raise-le p.marks (waiting_at p place) source);
          settled = S.settled;
        }
      where
        one : (w : Message) → w is_in waiting_at p place ∷ rest.handed → (w is_in rest.handed → w is_in without place p.waiting) → w is_in p.waiting
        one w (first e) below = Memᴰ.cast e (get_or_is_in place p.waiting _ lt)
        one w (later i) below = is_in_without place p.waiting w (below i)
