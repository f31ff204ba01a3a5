-- Two orders of receiving the same frames hand the same messages, and the same wait. Assumes nothing.
use Prim.Native.Nat.{ℕ, zero, suc, ◌≤◌, ◌<◌}
use native.Mathlib.Nat.{not-suc-le-zero}
use native.Mathlib.Decide.{dec_lt}
use native.Mathlib.Omega.{arith}
use mathlib.Core.Path.{◌≡◌, sym, ap, ◌∙◌, subst, subst⁻¹}
use mathlib.Core.Logic.{inl, inr, ⊎_elim, by_cases}
use mathlib.Core.List.Memᴰ
use mathlib.Core.List.{List, ◌++◌}
use lib.ListN.{get_or}
use Rattle.frame.specs.Message.{Message}
use Rattle.frame.specs.Reading.{message_from}
use Rattle.rules.specs.Panel.{Name, name_of, Make, Panel}
use Rattle.rules.specs.Handing.{log_record}
use Rattle.rules.specs.Lists.{◌is_in◌, Made, record_at, given_to, log_at, sends, Before}
use Rattle.rules.proofs.Ready.{limit, limit-of_make, dead-limit, dead_floor}
use Rattle.rules.proofs.Cause.{before_rises}
use Rattle.rules.proofs.Reached.{waits_for}
use Rattle.arrivals.specs.Arrival.{records_at}
use Rattle.arrivals.proofs.HandAll.{bare, hand_all_high}
use Rattle.arrivals.proofs.Receiving.{Takeable}
use Rattle.arrivals.proofs.AfterReceives.{HereAt, FromFrames, same_limit}
use Rattle.arrivals.proofs.OneOrder.{Order, log_split, log_was, log_handed, new}

-- of the frames received in the one order, each is received in the other, or one of the same message
module _ {i : ℕ} {make : Make} {list : List Made} {frames_one frames_two : List (List ℕ)} {one two : List Made} (O : Order i make list frames_one one)
    (T : Order i make list frames_two two) (frames : (frame : List ℕ) → frame is_in frames_one → (same : List ℕ) × (same is_in frames_two) × (message_from same ≡ message_from frame)) where
  abbrev p : Panel
  p = record_at i (one ++ list)

  abbrev q : Panel
  q = record_at i (two ++ list)

  same_sends : sends (one ++ list) ≡ sends (two ++ list)
  same_sends = O.same_sends ∙ sym T.same_sends

  same_limits : limit p ≡ limit q
  same_limits = sym (limit-of_make p make) ∙ same_limit O.after ∙ sym (same_limit T.after) ∙ limit-of_make q make

  -- ---- the messages

  -- what was handed or waits in the one was handed or waits in the other
  here : (w : Message) → HereAt i O.after.handed (one ++ list) w → HereAt i T.after.handed (two ++ list) w
  here w h = ⊎_elim (T.after.kept w) taken (O.after.only w h)
    where
      taken : FromFrames (given_to i make list) frames_one w → HereAt i T.after.handed (two ++ list) w
      taken (frame, k, e, t) =
          let (same, i', f) = frames frame k in
          let is = f ∙ e in
          ⊎_elim (λ j. absurd (new O w h (Memᴰ.cast (sym (ap name_of is)) j))) (λ g. subst (HereAt i T.after.handed (two ++ list)) is g)
          (T.after.came same i' (subst⁻¹ (Takeable (given_to i make list)) is t))

  -- What was handed in the one was handed in the other: by induction on its deadline, all that is before it was.
  handed_below : (above : ℕ) (w : Message) → w.deadline < above → w is_in O.after.handed → w is_in T.after.handed
  handed_below zero w lt k = absurd (not-suc-le-zero lt)
  handed_below (suc above) w lt k = go (handed_below above) (here w (inl k))
    where
      go : ((v : Message) → v.deadline < above → v is_in O.after.handed → v is_in T.after.handed) → HereAt i T.after.handed (two ++ list) w → w is_in T.after.handed
      go below (inl j) = j
      go below (inr j) =
          let (x, b, out, live) = waits_for (two ++ list) T.sound i w j in
          let c : Before (sends (one ++ list)) x (name_of w) = subst⁻¹ (λ ss. Before ss x (name_of w)) same_sends b in
          absurd (⊎_elim (logged x (before_rises O.sound.sends_sound c) out)
          (λ d. omega (arith, d, dead-limit p, same_limits, live))
          ((O.sound.sites i).sound.log_sound.whole (name_of w) x (log_handed O w k) c))
        where
          logged : (x : Name) → x.deadline < w.deadline → ¬ (x is_in log_at i (two ++ list)) → x is_in log_at i (one ++ list) → ⊥
          logged x earlier out l =
              ⊎_elim (λ j. out (log_was T x j))
              (λ (q : (v : Message) × (v is_in O.after.handed) × (name_of v ≡ x)).
              out (Memᴰ.cast (sym q.2) (log_handed T q.0 (below q.0 (omega (arith, earlier, lt, ap (λ (n : Name). n.deadline) q.2)) q.1))))
              (log_split O x l)

  pub handed : (w : Message) → w is_in O.after.handed → w is_in T.after.handed
  handed w k = handed_below (suc w.deadline) w (omega arith) k

  pub logged : (x : Name) → x is_in log_at i (one ++ list) → x is_in log_at i (two ++ list)
  logged x k =
      ⊎_elim (log_was T x)
      (λ (q : (v : Message) × (v is_in O.after.handed) × (name_of v ≡ x)). Memᴰ.cast (sym q.2) (log_handed T q.0 (handed q.0 q.1))) (log_split O x k)

  -- what waits in the one waits in the other, if that hands nothing more
  pub waits : ((w : Message) → w is_in T.after.handed → w is_in O.after.handed) → (w : Message) → w is_in p.waiting
      → w is_in q.waiting
  waits back w k = ⊎_elim (λ j. absurd ((O.sound.sites i).sound.waits.unlogged w k (log_handed O w (back w j)))) (λ j. j) (here w (inr k))

  -- ---- what the record says of them

  pub high_le : p.high ≤ q.high
  high_le =
      let H = hand_all_high (bare (given_to i make list)) O.after.handed in
      let J = hand_all_high (bare (given_to i make list)) T.after.handed in
      let mine = ap (λ (r : Panel). r.high) O.after.panel in
      let others = ap (λ (r : Panel). r.high) T.after.panel in
      ⊎_elim (λ e. omega (arith, mine, others, e, J.at_least)) (λ m. omega (arith, mine, others, m.2, J.each m.0 (handed m.0 m.1))) H.one

  pub mark-le : (k : ℕ) → get_or p.marks k 0 ≤ get_or q.marks k 0
  mark-le k =
      by_cases (dec_lt 0 (get_or p.marks k 0))
      (λ h. (T.sound.sites i).sound.summary.below_mark _ (logged _ ((O.sound.sites i).sound.summary.mark_logged k h))) (λ h. omega arith)

  pub floor_le : ((x : Name) → x is_in log_at i (two ++ list) → x is_in log_at i (one ++ list)) → p.floor ≤ q.floor
  floor_le back =
      by_cases (dec_lt 0 p.floor)
      (λ h.
      let (x, n, e, k, b, out) = (O.sound.sites i).sound.missing h in
      let c : Before (sends (two ++ list)) x n = subst (λ ss. Before ss x n) same_sends b in
      ⊎_elim (λ a. absurd (out (back x a))) (λ d. omega (arith, e, dead_floor q x.deadline d))
      ((T.sound.sites i).sound.log_sound.whole n x (logged n k) c))
      (λ h. omega arith)

  pub records_in_lem : (r : List ℕ) → r is_in records_at i (one ++ list) → r is_in records_at i (two ++ list)
  records_in_lem r k =
      subst⁻¹ (λ (l : List (List ℕ)). r is_in l) T.after.records
      (⊎_elim (λ j. Memᴰ.append_left _ j)
      (λ j.
      let (w, l, e) = Memᴰ.of_map log_record O.after.handed j in
      Memᴰ.append_right (records_at i list) (Memᴰ.cast (sym e) (Memᴰ.map log_record (handed w l))))
      (Memᴰ.append_cases (records_at i list) (subst (λ (l : List (List ℕ)). r is_in l) O.after.records k)))
