-- The floor of a panel is the one counted from the frames sent and the log; what a clock call drops. Assumes nothing.
use Prim.Native.Nat.{ℕ, ◌≤◌, ◌<◌, max}
use native.Mathlib.Decide.{dec_lt}
use native.Mathlib.Omega.{arith}
use mathlib.Core.Path.{◌≡◌, refl, sym, ap, ◌∙◌}
use mathlib.Core.Logic.{◌⊎◌, inl, inr, ⊎_elim, by_cases}
use mathlib.Core.Bool.{Bool, true, false, cond, not, ◌||◌, true≢false, false≢true}
use mathlib.Core.List.Memᴰ
use mathlib.Core.List.Memᴰ.{head as first}
use mathlib.Core.List.Memᴰ.{tail as later}
use mathlib.Core.List.{List, [], ◌∷◌, ◌++◌}
use lib.ListN.{get_or}
use lib.Dec.{eqb}
use borrow.Author.Tests.{eqb-true, eq-eqb}
use Rattle.frame.specs.Message.{Message}
use Rattle.frame.proofs.Conjunction.{and_both}
use Rattle.rules.specs.Panel.{Name, name_of, Panel, has_lapsed}
use Rattle.rules.specs.Handing.{missed, missed_at, hand}
use Rattle.rules.specs.Lists.{◌is_in◌, Sent, Before, direct}
use Rattle.rules.specs.Lapsing.{same_name, entries_sent, mark_in, floor_handed, is_one_of, not_dropped}
use Rattle.rules.proofs.Booleans.{or_either, not-true, cond_both}
use Rattle.rules.proofs.Missed.{missed-some}
use Rattle.rules.proofs.WaitingList.{is_in_end}
use Rattle.rules.proofs.Cause.{carried, name, named, name_path, SendsSound, before_rises}
use Rattle.rules.proofs.Sound.{SummarySound, WasSent, Missing, PanelSound}

-- ---- the same name

pub same_name_true : (x y : Name) → same_name x y ≡ true → x ≡ y
same_name_true x y e =
    let (source, deadline) = and_both (eqb x.source y.source) (eqb x.deadline y.deadline) e in
    name_path (eqb-true x.source y.source source) (eqb-true x.deadline y.deadline deadline)

pub same_name_refl : (x : Name) → same_name x x ≡ true
same_name_refl x = simp (eq-eqb x.source x.source refl, eq-eqb x.deadline x.deadline refl)

-- ---- the entries of a message are those of its frame

entries_sent-one : (ss : List Sent) (s : Sent) → s is_in ss → ((t : Sent) → t is_in ss → name t ≡ name s → t ≡ s) → entries_sent ss (name s) ≡ (carried s).entries
unfolding entries_sent
entries_sent-one [] s i one = elim i [ ]
entries_sent-one (t ∷ ss) s i one =
    cond_both (λ (l : List ℕ). l ≡ (carried s).entries) (same_name (name t) (name s))
    (λ e. ap (λ (u : Sent). (carried u).entries) (one t (first refl) (same_name_true (name t) (name s) e)))
    (λ e. go (λ k. entries_sent-one ss s k (λ u j. one u (later j))) e i)
  where
    go : (s is_in ss → entries_sent ss (name s) ≡ (carried s).entries) → same_name (name t) (name s) ≡ false → s is_in t ∷ ss
        → entries_sent ss (name s) ≡ (carried s).entries
    go below e (first q) = absurd (true≢false (sym (same_name_refl (name s)) ∙ ap (λ (u : Sent). same_name (name u) (name s)) q ∙ e))
    go below e (later k) = below k

pub entries_sent-sent : {ss : List Sent} → SendsSound ss → (m : Message) → WasSent ss m → entries_sent ss (name_of m) ≡ m.entries
entries_sent-sent {ss} S m (s, i, e) =
    ap (λ x. entries_sent ss (name_of x)) (sym e) ∙ entries_sent-one ss s i (λ t j q. S.unique t s j i q) ∙ ap (λ (x : Message). x.entries) e

-- ---- the marks are those of the log

mark_in-le : (log : List Name) (k above : ℕ) → ((x : Name) → x is_in log → x.source ≡ k → x.deadline ≤ above) → mark_in log k ≤ above
unfolding mark_in
mark_in-le [] k above each = omega arith
mark_in-le (n ∷ log) k above each =
    let rest = mark_in-le log k above (λ x i. each x (later i)) in
    let here : cond (eqb n.source k) n.deadline 0 ≤ above =
    cond_both (λ d. d ≤ above) (eqb n.source k) (λ e. each n (first refl) (eqb-true n.source k e)) (λ _. omega arith) in
    omega arith

pub mark_in_ge : (log : List Name) (x : Name) → x is_in log → x.deadline ≤ mark_in log x.source
unfolding mark_in
mark_in_ge [] x i = elim i [ ]
mark_in_ge (n ∷ log) x (first e) =
    rw e (rw (eq-eqb n.source n.source refl) (omega arith))
mark_in_ge (n ∷ log) x (later i) = omega (arith, mark_in_ge log x i)

pub mark_in-mark : {ss : List Sent} {log : List Name} {marks barrier : List ℕ} {high : ℕ} → SummarySound ss log marks barrier high
    → (k : ℕ) → mark_in log k ≡ get_or marks k 0
mark_in-mark {log = log} {marks = marks} K k =
    let le = mark_in-le log k (get_or marks k 0) (λ x i e. rw e at (K.below_mark x i)) in
    let ge : get_or marks k 0 ≤ mark_in log k =
    by_cases (dec_lt 0 (get_or marks k 0)) (λ above. mark_in_ge log _ (K.mark_logged k above)) (λ zero. omega arith) in
    omega arith

-- ---- handing

-- the floor of the record rises as the one counted
pub hand_floor : {ss : List Sent} → SendsSound ss → {log : List Name} {barrier : List ℕ} {high : ℕ} (p : Panel) → SummarySound ss log p.marks barrier high
    → (m : Message) → WasSent ss m → (hand p m).floor ≡ floor_handed ss p.time p.floor log (name_of m)
unfolding hand floor_handed
hand_floor S p K m sent =
    λ i. max p.floor (missed p.time p.floor (λ k. sym (mark_in-mark K k) i) (sym (entries_sent-sent S m sent) i))

-- and is the deadline of a message that is before one of the log, and is not in it
pub hand_missing : {ss : List Sent} → SendsSound ss → {log : List Name} {barrier : List ℕ} {high : ℕ} (p : Panel)
    → SummarySound ss log p.marks barrier high → (m : Message) → WasSent ss m → p.floor < m.deadline
    → (0 < p.floor → Missing ss log p.floor) → 0 < (hand p m).floor → Missing ss (log ++ (name_of m ∷ [])) (hand p m).floor
unfolding hand
hand_missing {ss} S {log} p K m (s, i, e) above missing pos =
    by_cases (dec_lt p.floor risen) (λ lt. new lt (missed-some p.time p.floor (λ k. get_or p.marks k 0) m.entries (omega arith)))
    (λ ge.
    let (x, n, d, k, b, out) = missing (omega arith) in
    (x, n, omega arith, Memᴰ.append_left _ k, b, λ j. ⊎_elim out (λ q. omega (arith, ap (λ (a : Name). a.deadline) q)) (is_in_end log j)))
  where
    risen : ℕ
    risen = missed_at p m.entries

    new : p.floor < risen → (k : ℕ) × (get_or m.entries k 0 ≡ risen) × (get_or p.marks k 0 < get_or m.entries k 0)
        → Missing ss (log ++ (name_of m ∷ [])) (max p.floor risen)
    new lt (k, d, unreached) =
        let x = named k (get_or m.entries k 0) in
        let b : Before ss x (name_of m) = direct s i (ap name_of e) (rw e at (S.entry s i k (rw e (omega arith)))) in (
          x,
          name_of m,
          omega arith,
          Memᴰ.append_right log (first refl),
          b,
          λ j. ⊎_elim (λ a. omega (arith, K.below_mark x a)) (λ q. omega (arith, before_rises S b, ap (λ (a : Name). a.deadline) q)) (is_in_end log j),
        )

-- so it is at most high
pub floor_high : {ss : List Sent} → SendsSound ss → {log : List Name} {p : Panel} → PanelSound ss log p → p.floor ≤ p.high
floor_high S {p = p} G =
    by_cases (dec_lt 0 p.floor)
    (λ h. let (x, n, e, k, b, out) = G.missing h in omega (arith, before_rises S b, G.summary.below_high n k))
    (λ h. omega arith)

-- ---- the messages that a clock call does not drop

is_one_of-true : (n : Name) (names : List Name) → is_one_of n names ≡ true → n is_in names
unfolding is_one_of
is_one_of-true n [] e = absurd (false≢true e)
is_one_of-true n (x ∷ names) e =
    ⊎_elim (λ q. first (same_name_true n x q)) (λ q. later (is_one_of-true n names q)) (or_either (same_name n x) (is_one_of n names) e)

pub is_in_not_dropped : (log : List Name) (time floor : ℕ) (taken : List Name) (n : Name) → n is_in not_dropped log time floor taken
    → (n is_in taken) × ((n is_in log) ⊎ (has_lapsed time floor n.deadline ≡ false))
unfolding not_dropped
is_in_not_dropped log time floor [] n i = elim i [ ]
is_in_not_dropped log time floor (x ∷ taken) n i =
    go (is_in_not_dropped log time floor taken n) (is_one_of x log || not (has_lapsed time floor x.deadline)) refl i
  where
    go : (n is_in not_dropped log time floor taken → (n is_in taken) × ((n is_in log) ⊎ (has_lapsed time floor n.deadline ≡ false)))
        → (stays : Bool) → (is_one_of x log || not (has_lapsed time floor x.deadline)) ≡ stays
        → n is_in cond stays (x ∷ []) [] ++ not_dropped log time floor taken
        → (n is_in x ∷ taken) × ((n is_in log) ⊎ (has_lapsed time floor n.deadline ≡ false))
    go below true e (first q) = (
      first q,
      ⊎_elim (λ a. inl (Memᴰ.cast q (is_one_of-true x log a)))
          (λ a. inr (rw q (not-true (has_lapsed time floor x.deadline) a)))
          (or_either (is_one_of x log) (not (has_lapsed time floor x.deadline)) e),
    )
    go below true e (later k) = let (a, b) = below k in (later a, b)
    go below false e k = let (a, b) = below k in (later a, b)
