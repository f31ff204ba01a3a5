-- One more message is sent: what held of the messages sent, and of each panel, still holds. Assumes nothing.
use Prim.Native.Nat.{ℕ, ◌≤◌, ◌<◌}
use native.Mathlib.Omega.{arith}
use mathlib.Core.Path.{◌≡◌, refl, sym, ap, ◌∙◌}
use mathlib.Core.Logic.{inl, inr, ⊎_elim}
use mathlib.Core.List.Memᴰ
use mathlib.Core.List.Memᴰ.{head as first}
use mathlib.Core.List.Memᴰ.{tail as later}
use mathlib.Core.List.{List, [], ◌∷◌, ◌++◌}
use lib.ListN.{get_or}
use Rattle.frame.specs.Message.{Message}
use Rattle.frame.proofs.Readable.{Readable}
use Rattle.rules.specs.Sizes.{width}
use Rattle.rules.specs.Panel.{Name, Panel}
use Rattle.rules.specs.Handing.{hand}
use Rattle.rules.specs.Calls.{emptied}
use Rattle.rules.specs.Lists.{◌is_in◌, Sent, Before, direct}
use Rattle.rules.proofs.Raise.{length-none64}
use Rattle.rules.proofs.Shortened.{length-barrier_for}
use Rattle.rules.proofs.Ready.{limit, limit_floor, dead, dead-limit, dead-hand, limit-hand, limit-emptied, dead-emptied}
use Rattle.rules.proofs.Cause.{carried, name, named, Known, Covered, SendsSound, LastStep, last, before_more, before_old}
use Rattle.rules.proofs.Sound.{LoggedOrDead, LogSound, SummarySound, WaitingSound, PanelSound, known_sent, ahead_is_in, Next, log_end}
use Rattle.rules.proofs.Floor.{hand_missing}
use Rattle.rules.proofs.Handing.{summary_end, thinned_all, thinned_for, waits_end}

-- m is sent with this log before it, at a panel that has all messages of its own in its log
pub record New (ss : List Sent) (m : Message) (log : List Name) : Type 0 where
  pub readable : Readable width m
  pub rising : (x : Name) → x is_in log → x.deadline < m.deadline
  pub own : (s : Sent) → s is_in ss → (name s).source ≡ m.source → name s is_in log
  pub known : (x : Name) → x is_in log → Known ss x
  pub entry : (k : ℕ) → 0 < get_or m.entries k 0 → named k (get_or m.entries k 0) is_in log
  pub cover : (x : Name) → x is_in log → Covered ss log m.entries x

abbrev known_more : {ss : List Sent} {new : Sent} {x : Name} → Known ss x → Known (new ∷ ss) x
known_more (s, i, e) = (s, later i, e)

covered_more : {ss : List Sent} {new : Sent} {log : List Name} (entries : List ℕ) {x : Name} → Covered ss log entries x → Covered (new ∷ ss) log entries x
covered_more entries (n, i, e, inl q) = (n, i, e, inl q)
covered_more entries (n, i, e, inr b) = (n, i, e, inr (before_more b))

module _ {ss : List Sent} (S : SendsSound ss) (new : Sent) (N : New ss (carried new) new.past) where
  pub unknown : ¬ Known ss (name new)
  unknown (s, i, e) = omega (arith, N.rising _ (N.own s i (ap (λ (n : Name). n.source) e)), ap (λ (n : Name). n.deadline) e)

  readable : (s : Sent) → s is_in new ∷ ss → Readable width (carried s)
  readable s (first e) = rw e N.readable
  readable s (later i) = S.readable s i

  unique : (s t : Sent) → s is_in new ∷ ss → t is_in new ∷ ss → name s ≡ name t → s ≡ t
  unique s t (first e) (first f) q = e ∙ sym f
  unique s t (first e) (later j) q = absurd (unknown (t, j, sym q ∙ ap name e))
  unique s t (later i) (first f) q = absurd (unknown (s, i, q ∙ ap name f))
  unique s t (later i) (later j) q = S.unique s t i j q

  known : (s : Sent) → s is_in new ∷ ss → (x : Name) → x is_in s.past → Known (new ∷ ss) x
  known s (first e) x h = known_more (N.known x (rw e at h))
  known s (later i) x h = known_more (S.known s i x h)

  rising : (s : Sent) → s is_in new ∷ ss → (x : Name) → x is_in s.past → x.deadline < (name s).deadline
  rising s (first e) x h = rw e (N.rising x (rw e at h))
  rising s (later i) x h = S.rising s i x h

  ordered : (s t : Sent) → s is_in new ∷ ss → t is_in new ∷ ss → (name s).source ≡ (name t).source → (name s).deadline < (name t).deadline → name s is_in t.past
  ordered s t (first e) (first f) q lt = absurd (omega (arith, ap (λ (a : Sent). (name a).deadline) e, ap (λ (a : Sent). (name a).deadline) f))
  ordered s t (first e) (later j) q lt =
      absurd (omega (arith, N.rising _ (N.own t j (sym q ∙ ap (λ (a : Sent). (name a).source) e)), ap (λ (a : Sent). (name a).deadline) e))
  ordered s t (later i) (first f) q lt = rw f (N.own s i (q ∙ ap (λ (a : Sent). (name a).source) f))
  ordered s t (later i) (later j) q lt = S.ordered s t i j q lt

  entry : (s : Sent) → s is_in new ∷ ss → (k : ℕ) → 0 < get_or (carried s).entries k 0 → named k (get_or (carried s).entries k 0) is_in s.past
  entry s (first e) k h = rw e (N.entry k (rw e at h))
  entry s (later i) k h = S.entry s i k h

  cover : (s : Sent) → s is_in new ∷ ss → (x : Name) → x is_in s.past → Covered (new ∷ ss) s.past (carried s).entries x
  cover s (first e) x h = rw e (covered_more (carried new).entries (N.cover x (rw e at h)))
  cover s (later i) x h = covered_more (carried s).entries (S.cover s i x h)

  pub sends_more : SendsSound (new ∷ ss)
  sends_more = record { readable = readable; unique = unique; known = known; rising = rising; ordered = ordered; entry = entry; cover = cover }

  -- ---- at every panel

  log_more : {log : List Name} {dead : ℕ} → LogSound ss log dead → LogSound (new ∷ ss) log dead
  log_more L =
      record {
        known = λ x i. known_more (L.known x i);
        whole = λ x y i b. L.whole x y i (before_old S unknown (L.known x i) b);
        once = L.once;
        order = λ x y a b. L.order x y a (before_old S unknown (L.known x (ahead_is_in x y _ a)) b);
      }

  summary_more : {log : List Name} {marks barrier : List ℕ} {high : ℕ} → SummarySound ss log marks barrier high
      → SummarySound (new ∷ ss) log marks barrier high
  summary_more {barrier = barrier} K =
      record {
        marks_64 = K.marks_64;
        barrier_64 = K.barrier_64;
        below_mark = K.below_mark;
        mark_logged = K.mark_logged;
        below_high = K.below_high;
        barrier_mark = K.barrier_mark;
        barrier_covers = λ x i. covered_more barrier (K.barrier_covers x i);
      }

  waits_more : {log : List Name} {limit : ℕ} {waiting : List Message} → WaitingSound ss log limit waiting → WaitingSound (new ∷ ss) log limit waiting
  waits_more W =
      record { sent = λ w i. let (s, j, e) = W.sent w i in (s, later j, e); alive = W.alive; unlogged = W.unlogged; distinct = W.distinct }

  pub panel_more : {log : List Name} {p : Panel} → PanelSound ss log p → PanelSound (new ∷ ss) log p
  panel_more G =
      record {
        log_sound = log_more G.log_sound;
        summary = summary_more G.summary;
        waits = waits_more G.waits;
        missing = λ pos. let (x, n, d, k, b, out) = G.missing pos in (x, n, d, k, before_more b, out);
      }

  -- ---- at the sender's own panel

  -- what is before the new message is in the log or dead, as its log was just before
  new_whole : {dead : ℕ} → LogSound ss new.past dead → (y : Name) → Before (new ∷ ss) y (name new) → LoggedOrDead new.past dead y
  new_whole {dead} L y b = go (last b)
    where
      go : LastStep (new ∷ ss) y (name new) → LoggedOrDead new.past dead y
      go (x, u, t, j, e, h) =
          let i : x is_in new.past = rw (unique t new j (first refl) e) at h in
          ⊎_elim (λ q. inl (Memᴰ.cast q i)) (λ c. (log_more L).whole x y i c) u

  -- the new message is handed with an emptied barrier
  pub own_sound : (p : Panel) → PanelSound ss new.past p → limit p ≤ (carried new).deadline
      → PanelSound (new ∷ ss) (new.past ++ (name new ∷ [])) (hand (emptied p) (carried new))
  unfolding hand
  own_sound p G alive =
      let H = panel_more G in
      let m = carried new in
      let next : Next (new ∷ ss) new.past (dead p) m =
      record { known = (new, first refl, refl); alive = omega (arith, dead-limit p); new = λ i. omega (arith, N.rising _ i) } in
      record {
        log_sound = log_end H.log_sound next _ (rw (dead-emptied p) at (dead-hand (emptied p) m))
            (λ y b. ⊎_elim (λ i. inl i) (λ d. inr (omega (arith, d, dead-hand (emptied p) m, dead-emptied p))) (new_whole G.log_sound y b));
        summary = summary_end sends_more H.log_sound m next H.summary _ (length-barrier_for p.make (emptied p) m ∙ length-none64)
            (thinned_for sends_more H.log_sound H.summary m (new, first refl, refl) p.make (emptied p)
            (thinned_all m H.summary (λ x i. direct new (first refl) refl i)));
        waits = rw (limit-hand (emptied p) m, limit-emptied p)
            (waits_end m H.waits (λ w i e. unknown (let (s, j, q) = known_sent (G.waits.sent w i) in (s, j, q ∙ e))));
        missing = hand_missing sends_more (emptied p) H.summary m (new, first refl, refl) (omega (arith, alive, limit_floor p)) H.missing;
      }
