-- In the order of a log, none stands behind one that names it, or behind a later one of its source. Assumes nothing.
use Prim.Native.Nat.{ℕ, ◌<◌}
use native.Mathlib.Decide.{dec_lt}
use native.Mathlib.Omega.{arith}
use mathlib.Core.Path.{◌≡◌, refl, sym, subst, subst⁻¹}
use mathlib.Core.Logic.{inl, inr, ⊎_elim, by_cases}
use mathlib.Core.List.Memᴰ
use mathlib.Core.List.Memᴰ.{head as first}
use mathlib.Core.List.Memᴰ.{tail as later}
use mathlib.Core.List.{List, [], ◌∷◌, ◌++◌, map}
use lib.ListN.{get_or}
use lib.Seq.{append_snoc}
use Rattle.frame.specs.Message.{Message}
use Rattle.rules.specs.Panel.{Name, name_of}
use Rattle.rules.specs.Lists.{◌is_in◌, Sent}
use Rattle.rules.specs.Demand3.{Ahead}
use Rattle.rules.proofs.Cause.{Known, SendsSound, source_order, known_source, known_deadline}
use Rattle.rules.proofs.Sound.{LogSound, SummarySound, barrier_logged, WasSent, known_sent}
use Rattle.rules.proofs.Handing.{entry_before}
use Rattle.rules.proofs.Keeping.{log_with}
use Rattle.arrivals.proofs.Barrier.{Ordered, Above}

pub ahead_append : (x y : Name) (log more : List Name) → x is_in log → y is_in more → Ahead x y (log ++ more)
ahead_append x y [] more i k = elim i [ ]
ahead_append x y (z ∷ log) more (first e) k = inl (e, Memᴰ.append_right log k)
ahead_append x y (z ∷ log) more (later i) k = inr (ahead_append x y log more i k)

module _ {ss : List Sent} (S : SendsSound ss) {log : List Name} {dead : ℕ} (L : LogSound ss log dead) where
  -- of one source, what stands ahead is the earlier
  ahead_earlier : (x y : Name) → Known ss x → Known ss y → Ahead x y log → x.source ≡ y.source → x.deadline < y.deadline
  ahead_earlier x y known known' ahead same =
      by_cases (dec_lt x.deadline y.deadline) (λ lt. lt)
      (λ ge.
      absurd (⊎_elim (λ (e : y ≡ x). L.once x (subst (λ n. Ahead x n log) e ahead)) (L.order x y ahead)
      (source_order S known' known (sym same) (omega (arith, ge)))))

  -- and it does not name what stands behind
  ahead_unnamed : (m : Message) (y : Name) → WasSent ss m → Known ss y → Ahead (name_of m) y log → get_or m.entries y.source 0 < y.deadline
  ahead_unnamed m y sent known ahead =
      by_cases (dec_lt (get_or m.entries y.source 0) y.deadline) (λ lt. lt)
      (λ ge. absurd (L.order (name_of m) y ahead (entry_before S m sent known (omega (arith, ge)))))

-- the messages at the end of a log
module _ {ss : List Sent} (S : SendsSound ss) {dead : ℕ} where
  pub ordered_end : (log : List Name) (ms : List Message) → LogSound ss (log_with log ms) dead → ((w : Message) → w is_in ms → WasSent ss w) → Ordered ms
  ordered_end log [] L sent = tt
  ordered_end log (m ∷ ms) L sent =
      let L' : LogSound ss (log_with (log ++ (name_of m ∷ [])) ms) dead = subst⁻¹ (λ l. LogSound ss l dead) (append_snoc log (name_of m) (map name_of ms)) L in
      (own (sent m (first refl)), after L', ordered_end (log ++ (name_of m ∷ [])) ms L' (λ w i. sent w (later i)))
    where
      own : WasSent ss m → get_or m.entries m.source 0 < m.deadline
      own (s, i, e) = rw e at ((S.readable s i).entries m.source)

      ahead : (w : Message) → w is_in ms → Ahead (name_of m) (name_of w) (log_with (log ++ (name_of m ∷ [])) ms)
      ahead w i = ahead_append _ _ (log ++ (name_of m ∷ [])) (map name_of ms) (Memᴰ.append_right log (first refl)) (Memᴰ.map name_of i)

      after : LogSound ss (log_with (log ++ (name_of m ∷ [])) ms) dead → (w : Message) → w is_in ms
          → (get_or m.entries w.source 0 < w.deadline) × (w.source ≡ m.source → m.deadline < w.deadline)
      after L' w i = (
        ahead_unnamed S L' m (name_of w) (sent m (first refl)) (known_sent (sent w (later i))) (ahead w i),
        λ same. ahead_earlier S L' (name_of m) (name_of w) (known_sent (sent m (first refl))) (known_sent (sent w (later i))) (ahead w i) (sym same),
      )

  -- they are later than what the barrier had of their sources
  pub above_end : {log : List Name} {marks barrier : List ℕ} {high : ℕ} → SummarySound ss log marks barrier high → (ms : List Message)
      → LogSound ss (log_with log ms) dead → ((w : Message) → w is_in ms → WasSent ss w) → Above barrier ms
  above_end {log} {marks} {barrier} K ms L sent w i = (known_source S known, by_cases (dec_lt 0 (get_or barrier w.source 0)) named none)
    where
      known : Known ss (name_of w)
      known = known_sent (sent w i)

      named : 0 < get_or barrier w.source 0 → get_or barrier w.source 0 < w.deadline
      named above =
          let k = barrier_logged K w.source above in
          ahead_earlier S L _ (name_of w) (L.known _ (Memᴰ.append_left _ k)) known (ahead_append _ _ log (map name_of ms) k (Memᴰ.map name_of i)) refl

      none : ¬ (0 < get_or barrier w.source 0) → get_or barrier w.source 0 < w.deadline
      none zero = omega (arith, zero, known_deadline S known)
