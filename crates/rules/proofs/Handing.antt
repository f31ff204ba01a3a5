-- Handing a message keeps what holds of a panel, if all that is before the message is in the log or dead. Assumes nothing.
use Prim.Native.Nat.{ℕ, ◌≤◌, ◌<◌, max}
use native.Mathlib.Decide.{ℕ_discrete, dec_lt}
use native.Mathlib.Omega.{arith}
use mathlib.Core.Path.{◌≡◌, refl, sym, ap, ◌∙◌, subst}
use mathlib.Core.Logic.{◌⊎◌, inl, inr, ⊎_elim, ◌≢◌, by_cases}
use mathlib.Core.Bool.{true}
use mathlib.Core.List.Memᴰ
use mathlib.Core.List.Memᴰ.{head as first}
use mathlib.Core.List.{List, [], ◌∷◌, ◌++◌}
use lib.ListN.{length, get_or}
use Rattle.frame.specs.Message.{Message}
use Rattle.rules.specs.Panel.{Name, name_of, Make, Panel, none64, ready}
use Rattle.rules.specs.Handing.{raise, barrier_for, hand}
use Rattle.rules.specs.Lists.{◌is_in◌, Sent, Before, direct}
use Rattle.rules.proofs.Raise.{length-raise, raise_same, raise_other, raise-le, get_or-none64}
use Rattle.rules.proofs.Shortened.{StaysOrRemoved, get_or-barrier_for, length-barrier_for}
use Rattle.rules.proofs.WaitingList.{is_in_end}
use Rattle.rules.proofs.Ready.{limit, limit_floor, dead, dead-limit, dead-hand, limit-hand, ready-true}
use Rattle.rules.proofs.Cause.{carried, named, name_path, Known, Upto, Covered, SendsSound, upto_before, upto_upto, upto_rises, source_order, known_deadline, known_source, before_covered}
use Rattle.rules.proofs.Sound.{LoggedOrDead, LogSound, SummarySound, barrier_logged, WasSent, WaitingSound, PanelSound, known_sent, Next, log_end}
use Rattle.rules.proofs.Floor.{hand_missing}

-- a list of numbers that names messages of the log is raised by a new one
raise-logged : (log : List Name) (m : Message) (ns : List ℕ) → m.source < length ns → get_or ns m.source 0 ≤ m.deadline
    → ((k : ℕ) → 0 < get_or ns k 0 → named k (get_or ns k 0) is_in log)
    → (k : ℕ) → 0 < get_or (raise ns m) k 0 → named k (get_or (raise ns m) k 0) is_in log ++ (name_of m ∷ [])
raise-logged log m ns lt le h k pos =
    by_cases (ℕ_discrete k m.source)
    (λ e. Memᴰ.append_right log (first (name_path e (rw e (omega (arith, raise_same ns m lt))))))
    (λ other. let v = raise_other ns m k other in Memᴰ.append_left _ (Memᴰ.cast (name_path refl v) (h k (omega arith))))

-- ---- marks, barrier and high, where a message goes to the end of the log

-- of the barrier each entry stays in b, or is removed where the message that it names is before m
abbrev pub Thinned : List Sent → Message → List ℕ → List ℕ → Type 0
Thinned ss m barrier b =
    (k : ℕ) → (get_or b k 0 ≡ get_or barrier k 0) ⊎ ((get_or b k 0 ≡ 0) × Before ss (named k (get_or barrier k 0)) (name_of m))

-- all is removed, where all of the log is before m
pub thinned_all : {ss : List Sent} {log : List Name} {marks barrier : List ℕ} {high : ℕ} (m : Message) → SummarySound ss log marks barrier high
    → ((x : Name) → x is_in log → Before ss x (name_of m)) → Thinned ss m barrier none64
thinned_all {barrier = barrier} m K all k =
    by_cases (dec_lt 0 (get_or barrier k 0)) (λ h. inr (get_or-none64 k, all _ (barrier_logged K k h))) (λ h. inl (omega (arith, get_or-none64 k)))

-- a message that an entry of m has reached is before m
pub entry_before : {ss : List Sent} → SendsSound ss → (m : Message) → WasSent ss m → {x : Name} → Known ss x → x.deadline ≤ get_or m.entries x.source 0
    → Before ss x (name_of m)
entry_before S m (s, i, e) {x} known le =
    let h = S.entry s i x.source (rw e (omega (arith, known_deadline S known))) in
    upto_before (source_order S known (S.known s i _ h) refl (rw e le)) (direct s i (ap name_of e) h)

-- so each make of panel only thins its barrier
pub thinned_for : {ss : List Sent} → SendsSound ss → {log : List Name} {dead : ℕ} → LogSound ss log dead → {marks barrier : List ℕ} {high : ℕ}
    → SummarySound ss log marks barrier high → (m : Message) → WasSent ss m → (make : Make) (p : Panel) → Thinned ss m barrier p.barrier
    → Thinned ss m barrier (barrier_for make p m)
thinned_for {ss} S L {barrier = barrier} K m sent make p thin k = go (get_or-barrier_for make p m k) (thin k)
  where
    b : List ℕ
    b = barrier_for make p m

    go : StaysOrRemoved b p m k
        → (get_or p.barrier k 0 ≡ get_or barrier k 0) ⊎ ((get_or p.barrier k 0 ≡ 0) × Before ss (named k (get_or barrier k 0)) (name_of m))
        → (get_or b k 0 ≡ get_or barrier k 0) ⊎ ((get_or b k 0 ≡ 0) × Before ss (named k (get_or barrier k 0)) (name_of m))
    go (inl e) (inl f) = inl (e ∙ f)
    go (inl e) (inr (f, before)) = inr (e ∙ f, before)
    go (inr (e, le)) (inl f) =
        by_cases (dec_lt 0 (get_or barrier k 0)) (λ h. inr (e, entry_before S m sent (L.known _ (barrier_logged K k h)) (omega arith)))
        (λ h. inl (omega arith))
    go (inr (e, le)) (inr (f, before)) = inr (e, before)

module _ {ss : List Sent} (S : SendsSound ss) {log : List Name} {dead : ℕ} (L : LogSound ss log dead) (m : Message) (N : Next ss log dead m)
    {marks barrier : List ℕ} {high : ℕ} (K : SummarySound ss log marks barrier high) where
  abbrev log' : List Name
  log' = log ++ (name_of m ∷ [])

  in_range : (ns : List ℕ) → length ns ≡ 64 → m.source < length ns
  in_range ns e = omega (arith, known_source S N.known)

  -- its deadline is above its source's mark
  above_mark : get_or marks m.source 0 < m.deadline
  above_mark =
      by_cases (dec_lt (get_or marks m.source 0) m.deadline) (λ h. h)
      (λ (h : ¬ (get_or marks m.source 0 < m.deadline)).
      let i = K.mark_logged m.source (omega (arith, known_deadline S N.known)) in
      ⊎_elim (λ e. absurd (N.new (Memᴰ.cast e i)))
      (λ b. absurd (⊎_elim N.new (λ d. omega (arith, d, N.alive)) (L.whole _ (name_of m) i b)))
      (source_order S N.known (L.known _ i) refl (omega arith)))

  thinned_mark : (b : List ℕ) → Thinned ss m barrier b → (k : ℕ) → 0 < get_or b k 0 → get_or b k 0 ≡ get_or marks k 0
  thinned_mark b thin k above =
      ⊎_elim (λ (e : get_or b k 0 ≡ get_or barrier k 0). e ∙ K.barrier_mark k (omega arith)) (λ removed. absurd (omega (arith, removed.0))) (thin k)

  -- a thinned barrier with m in it has marks for entries, and covers the log
  pub summary_end : (b : List ℕ) → length b ≡ 64 → Thinned ss m barrier b → SummarySound ss log' (raise marks m) (raise b m) (max high m.deadline)
  summary_end b len thin =
      let above = in_range marks K.marks_64 in
      record {
        marks_64 = length-raise marks m ∙ K.marks_64;
        barrier_64 = length-raise b m ∙ len;
        below_mark = λ x i.
            ⊎_elim (λ k. omega (arith, K.below_mark x k, raise-le marks m x.source))
            (λ e. rw e (omega (arith, raise_same marks m above))) (is_in_end log i);
        mark_logged = raise-logged log m marks above (omega (arith, above_mark)) K.mark_logged;
        below_high = λ x i. ⊎_elim (λ k. omega (arith, K.below_high x k)) (λ e. rw e (omega arith)) (is_in_end log i);
        barrier_mark = λ k entry.
            by_cases (ℕ_discrete k m.source)
            (λ e. rw e (omega (arith, raise_same b m lt, raise_same marks m above, le, above_mark)))
            (λ other.
            let b-other = raise_other b m k other in
            b-other ∙ thinned_mark b thin k (omega (arith, entry, b-other)) ∙ sym (raise_other marks m k other));
        barrier_covers = λ x i. ⊎_elim (λ k. old (K.barrier_covers x k)) (λ e. by_m (inl e)) (is_in_end log i);
      }
    where
      lt : m.source < length b
      lt = in_range b len

      le : get_or b m.source 0 ≤ m.deadline
      le =
          by_cases (dec_lt 0 (get_or b m.source 0))
          (λ h. omega (arith, thinned_mark b thin m.source h, above_mark)) (λ h. omega arith)

      by_m : {x : Name} → Upto ss x (name_of m) → Covered ss log' (raise b m) x
      by_m u = (name_of m, Memᴰ.append_right log (first refl), omega (arith, raise_same b m lt, le), u)

      old : {x : Name} → Covered ss log barrier x → Covered ss log' (raise b m) x
      old (c, i, e, u) =
          by_cases (ℕ_discrete c.source m.source)
          (λ same.
          let below : c.deadline ≤ get_or marks m.source 0 = rw same at (K.below_mark c i) in
          by_m (upto_upto u (source_order S (L.known c i) N.known same (omega (arith, above_mark)))))
          (λ other.
          ⊎_elim (λ stays. (c, Memᴰ.append_left _ i, raise_other b m c.source other ∙ stays ∙ e, u))
          (λ removed. by_m (inr (upto_before u (subst (λ n. Before ss n (name_of m)) (name_path refl e) removed.1))))
          (thin c.source))

-- ---- the waiting list, where one more message, another than those that wait, is in the log

pub waits_end : {ss : List Sent} {log : List Name} {limit : ℕ} {waiting : List Message} (m : Message) → WaitingSound ss log limit waiting
    → ((w : Message) → w is_in waiting → name_of w ≢ name_of m) → WaitingSound ss (log ++ (name_of m ∷ [])) limit waiting
waits_end {log = log} m W other =
    record { sent = W.sent; alive = W.alive; unlogged = λ w i k. ⊎_elim (W.unlogged w i) (other w i) (is_in_end log k); distinct = W.distinct }

-- ---- a ready message

module _ {ss : List Sent} (S : SendsSound ss) {log : List Name} {p : Panel} (G : PanelSound ss log p) where
  -- what is, or is before, a message that a mark has reached is in the log or dead
  reached : {y c : Name} → Known ss c → Upto ss y c → c.deadline ≤ get_or p.marks c.source 0 → LoggedOrDead log (dead p) y
  reached {y} {c} k u le =
      let i = G.summary.mark_logged c.source (omega (arith, known_deadline S k)) in
      ⊎_elim (λ e. inl (Memᴰ.cast e i)) (λ b. G.log_sound.whole _ y i b) (upto_upto u (source_order S k (G.log_sound.known _ i) refl le))

  -- what is before a ready message is in the log, or dead as it is handed
  ready_whole : (m : Message) → WasSent ss m → ready p m ≡ true → (y : Name) → Before ss y (name_of m) → LoggedOrDead log (dead (hand p m)) y
  ready_whole m (s, i, e) r y b = go (before_covered S s i (rw (← e) at b))
    where
      go : Covered ss s.past (carried s).entries y → LoggedOrDead log (dead (hand p m)) y
      go (c, ci, ce, u) =
          let value : get_or m.entries c.source 0 ≡ c.deadline = rw e at ce in
          let k = S.known s i c ci in
          ⊎_elim (λ (l : get_or m.entries c.source 0 ≤ get_or p.marks c.source 0).
          ⊎_elim (λ a. inl a) (λ d. inr (omega (arith, d, dead-hand p m))) (reached k u (omega arith)))
          (λ l. inr (omega (arith, l, upto_rises S u)))
          (ready-true p m r c.source (known_source S k))

  -- a ready message, neither waiting nor in the log, is handed
  pub hand-ready : (m : Message) → WasSent ss m → limit p ≤ m.deadline → ¬ (name_of m is_in log) → ready p m ≡ true
      → ((w : Message) → w is_in p.waiting → name_of w ≢ name_of m) → PanelSound ss (log ++ (name_of m ∷ [])) (hand p m)
  unfolding hand
  hand-ready m s alive new r other =
      let next : Next ss log (dead p) m = record { known = known_sent s; alive = omega (arith, dead-limit p); new = new } in
      record {
        log_sound = log_end G.log_sound next _ (dead-hand p m) (ready_whole m s r);
        summary = summary_end S G.log_sound m next G.summary _ (length-barrier_for p.make p m ∙ G.summary.barrier_64)
            (thinned_for S G.log_sound G.summary m s p.make p (λ k. inl refl));
        waits = rw (limit-hand p m) (waits_end m G.waits other);
        missing = hand_missing S p G.summary m s (omega (arith, alive, limit_floor p)) G.missing;
      }
