-- What holds of one panel between any two steps of a call: its log is in the order of cause, its record sums up the log, its waiting list is
-- in order. Assumes nothing.
use Prim.Native.Nat.{ℕ, ◌≤◌, ◌<◌}
use native.Mathlib.Omega.{arith}
use mathlib.Core.Path.{◌≡◌, sym, ap, subst⁻¹}
use mathlib.Core.Logic.{◌⊎◌, inl, inr, ⊎_elim}
use mathlib.Core.List.Memᴰ
use mathlib.Core.List.Memᴰ.{head as first}
use mathlib.Core.List.Memᴰ.{tail as later}
use mathlib.Core.List.{List, [], ◌∷◌, ◌++◌}
use lib.ListN.{length, get_or}
use Rattle.frame.specs.Message.{Message}
use Rattle.rules.specs.Panel.{Name, name_of, Panel}
use Rattle.rules.specs.Lists.{◌is_in◌, Sent, Before}
use Rattle.rules.specs.Demand3.{Ahead}
use Rattle.rules.proofs.WaitingList.{is_in_end, Distinct}
use Rattle.rules.proofs.Ready.{limit, dead}
use Rattle.rules.proofs.Cause.{carried, named, Known, Covered}

-- x is in the log, or dead: its deadline is below that number
abbrev pub LoggedOrDead : List Name → ℕ → Name → Type 0
LoggedOrDead log dead x = (x is_in log) ⊎ (x.deadline < dead)

-- a log: of messages sent, with all that is before each but for the dead, none twice, in the order of cause
pub record LogSound (ss : List Sent) (log : List Name) (dead : ℕ) : Type 0 where
  pub known : (x : Name) → x is_in log → Known ss x
  pub whole : (x y : Name) → x is_in log → Before ss y x → LoggedOrDead log dead y
  pub once : (x : Name) → ¬ Ahead x x log
  pub order : (x y : Name) → Ahead x y log → ¬ Before ss y x

-- what marks, barrier and high say of the log: the marks and high are its largest deadlines, an entry of the barrier is its panel's mark, and
-- the barrier covers the log
pub record SummarySound (ss : List Sent) (log : List Name) (marks barrier : List ℕ) (high : ℕ) : Type 0 where
  pub marks_64 : length marks ≡ 64
  pub barrier_64 : length barrier ≡ 64
  pub below_mark : (x : Name) → x is_in log → x.deadline ≤ get_or marks x.source 0
  pub mark_logged : (k : ℕ) → 0 < get_or marks k 0 → named k (get_or marks k 0) is_in log
  pub below_high : (x : Name) → x is_in log → x.deadline ≤ high
  pub barrier_mark : (k : ℕ) → 0 < get_or barrier k 0 → get_or barrier k 0 ≡ get_or marks k 0
  pub barrier_covers : (x : Name) → x is_in log → Covered ss log barrier x

-- so the barrier names messages of the log
pub barrier_logged : {ss : List Sent} {log : List Name} {marks barrier : List ℕ} {high : ℕ} → SummarySound ss log marks barrier high
    → (k : ℕ) → 0 < get_or barrier k 0 → named k (get_or barrier k 0) is_in log
barrier_logged {log = log} {barrier = barrier} K k above =
    let mark = K.barrier_mark k above in
    subst⁻¹ (λ (deadline : ℕ). named k deadline is_in log) mark (K.mark_logged k (omega arith))

-- a message that was sent
abbrev pub WasSent : List Sent → Message → Type 0
WasSent ss m = (s : Sent) × (s is_in ss) × (carried s ≡ m)

-- the waiting list: messages sent, alive, not in the log, none twice
pub record WaitingSound (ss : List Sent) (log : List Name) (limit : ℕ) (waiting : List Message) : Type 0 where
  pub sent : (w : Message) → w is_in waiting → WasSent ss w
  pub alive : (w : Message) → w is_in waiting → limit ≤ w.deadline
  pub unlogged : (w : Message) → w is_in waiting → ¬ (name_of w is_in log)
  pub distinct : Distinct waiting

-- a message that is before one of the log, and is not in it, has this deadline
abbrev pub Missing : List Sent → List Name → ℕ → Type 0
Missing ss log deadline = (x n : Name) × (x.deadline ≡ deadline) × (n is_in log) × Before ss x n × ¬ (x is_in log)

pub record PanelSound (ss : List Sent) (log : List Name) (p : Panel) : Type 0 where
  pub log_sound : LogSound ss log (dead p)
  pub summary : SummarySound ss log p.marks p.barrier p.high
  pub waits : WaitingSound ss log (limit p) p.waiting
  pub missing : 0 < p.floor → Missing ss log p.floor

pub known_sent : {ss : List Sent} {m : Message} → WasSent ss m → Known ss (name_of m)
known_sent (s, i, e) = (s, i, ap name_of e)

-- ---- the end of a log

pub ahead_end : (x y n : Name) (log : List Name) → Ahead x y (log ++ (n ∷ [])) → Ahead x y log ⊎ ((x is_in log) × (y ≡ n))
ahead_end x y n [] (inl h) = absurd (Memᴰ.not-nil h.1)
ahead_end x y n [] (inr h) = absurd h
ahead_end x y n (z ∷ log) (inl h) = ⊎_elim (λ a. inl (inl (h.0, a))) (λ b. inr (first h.0, b)) (is_in_end log h.1)
ahead_end x y n (z ∷ log) (inr h) = ⊎_elim (λ a. inl (inr a)) (λ b. inr (later b.0, b.1)) (ahead_end x y n log h)

pub ahead_is_in : (x y : Name) (log : List Name) → Ahead x y log → x is_in log
ahead_is_in x y [] i = elim i [ ]
ahead_is_in x y (z ∷ log) (inl h) = first h.0
ahead_is_in x y (z ∷ log) (inr h) = later (ahead_is_in x y log h)

-- ---- a message goes to the end of a log

-- m was sent, is not dead, and is not in the log yet
pub record Next (ss : List Sent) (log : List Name) (dead : ℕ) (m : Message) : Type 0 where
  pub known : Known ss (name_of m)
  pub alive : dead ≤ m.deadline
  pub new : ¬ (name_of m is_in log)

-- all that is before it is in the log, but for the dead, which may be more by now; nothing that it is before stands there already
pub log_end : {ss : List Sent} {log : List Name} {dead : ℕ} {m : Message} → LogSound ss log dead → Next ss log dead m → (more : ℕ) → dead ≤ more
    → ((y : Name) → Before ss y (name_of m) → LoggedOrDead log more y) → LogSound ss (log ++ (name_of m ∷ [])) more
log_end {ss} {log} {dead} {m} L N more le h =
    record {
      known = λ x i. ⊎_elim (λ k. L.known x k) (λ e. rw e N.known) (is_in_end log i);
      whole = λ x y i b. ⊎_elim (λ k. widen (later_dead (L.whole x y k b))) (λ e. widen (h y (rw e at b))) (is_in_end log i);
      once = λ x a.
          ⊎_elim (λ k. L.once x k) (λ (k : (x is_in log) × (x ≡ name_of m)). N.new (Memᴰ.cast (sym k.1) k.0)) (ahead_end x x (name_of m) log a);
      order = λ x y a b.
          ⊎_elim (λ k. L.order x y k b) (λ (k : (x is_in log) × (y ≡ name_of m)). behind x k.0 (rw k.1 at b)) (ahead_end x y (name_of m) log a);
    }
  where
    later_dead : {y : Name} → LoggedOrDead log dead y → LoggedOrDead log more y
    later_dead (inl i) = inl i
    later_dead (inr d) = inr (omega arith)

    widen : {y : Name} → LoggedOrDead log more y → LoggedOrDead (log ++ (name_of m ∷ [])) more y
    widen (inl i) = inl (Memᴰ.append_left _ i)
    widen (inr d) = inr d

    behind : (x : Name) → x is_in log → Before ss (name_of m) x → ⊥
    behind x i b = ⊎_elim N.new (λ d. omega (arith, d, N.alive)) (L.whole x (name_of m) i b)
