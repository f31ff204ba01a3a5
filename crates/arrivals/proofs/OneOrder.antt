-- An order of receiving frames at a panel, after a list of demand 3: what holds of it alone. Assumes nothing.
use Prim.Native.Nat.{ℕ}
use mathlib.Core.Path.{◌≡◌, subst, subst⁻¹}
use mathlib.Core.Logic.{◌⊎◌, inl, inr, ⊎_elim}
use mathlib.Core.List.Memᴰ
use mathlib.Core.List.{List, [], ◌∷◌, ◌++◌, map, Nodup}
use Rattle.frame.specs.Message.{Message}
use Rattle.rules.specs.Panel.{Name, name_of, Make, Panel}
use Rattle.rules.specs.Lists.{◌is_in◌, Made, record_at, given_to, log_at, sends, Lawful, AllPromised}
use Rattle.rules.specs.Demand3.{Ahead}
use Rattle.rules.proofs.Ready.{dead}
use Rattle.rules.proofs.Sound.{LogSound, WasSent}
use Rattle.rules.proofs.Keeping.{log_with}
use Rattle.rules.proofs.Steps.{ListSound}
use Rattle.rules.proofs.Reached.{list_sound}
use Rattle.arrivals.specs.Arrival.{AllHeard, records_at}
use Rattle.arrivals.proofs.Sets.{names_once, Distinct_once}
use Rattle.arrivals.proofs.SentFrames.{sent_unique, AllRead, sends_read, carries_sent, heard_lawful, frames_sent_lem, sent_in, heard_promised}
use Rattle.arrivals.proofs.Records.{name_at, log_names}
use Rattle.arrivals.proofs.HandAll.{bare}
use Rattle.arrivals.proofs.Barrier.{Exact, hand_all_exact}
use Rattle.arrivals.proofs.Receiving.{received}
use Rattle.arrivals.proofs.AfterReceives.{HereAt, FromFrames, After, none_heard, one_heard}
use Rattle.arrivals.proofs.LogOrder.{ahead_append, ordered_end, above_end}

-- what was handed or waits was sent
here_sent : {i : ℕ} {make : Make} {list : List Made} {frames : List (List ℕ)} {heard : List Made} → ListSound list → AllRead (sends list) → AllHeard (sends list) i make frames heard
    → (A : After i make list frames heard) → (w : Message) → HereAt i A.handed (heard ++ list) w → WasSent (sends list) w
here_sent {i} {make} {list} {frames} {heard} L read all A w h =
    ⊎_elim ((L.sites i).sound.waits.sent w)
    (λ (q : FromFrames (given_to i make list) frames w). subst (WasSent (sends list)) q.2 (frames_sent_lem read i make frames heard all q.0 q.1).1)
    (A.only w h)

after : (list : List Made) → Lawful list → AllPromised list → (i : ℕ) (make : Make) (frames : List (List ℕ)) (heard : List Made)
    → AllHeard (sends list) i make frames heard → AllPromised (heard ++ list) → After i make list frames heard
after list lawful promised₀ i make [] (last ∷ heard) all promised = elim all [ ]
after list lawful promised₀ i make (frame ∷ frames) [] all promised = elim all [ ]
after list lawful promised₀ i make [] [] all promised = none_heard i make list
after list lawful promised₀ i make (frame ∷ frames) (last ∷ heard) (H, all) (promise, promised) =
    let A = after list lawful promised₀ i make frames heard all promised in
    let L₀ = list_sound list lawful promised₀ in
    let read = sends_read list lawful promised₀ in
    let F = sent_in list lawful i make frame frames last heard (H, all) promised in
    let R = (received (given_to i make (heard ++ list)) frame H.output F.readable).1 in
    one_heard A H (heard_promised (heard ++ list) H promise) R F
    (λ w h e.
    sent_unique L₀.sends_sound (here_sent L₀ read all A w h) (carries_sent read frame H.was_sent).1 e)

-- the receives, what they hand, and that it is a list of demand 3
pub record Order (i : ℕ) (make : Make) (list : List Made) (frames : List (List ℕ)) (heard : List Made) : Type 0 where
  pub sound : ListSound (heard ++ list)
  pub same_sends : sends (heard ++ list) ≡ sends list
  pub after : After i make list frames heard
  pub sent : (w : Message) → w is_in after.handed → WasSent (sends list) w

pub order : (list : List Made) → Lawful list → AllPromised list → (i : ℕ) (make : Make) (frames : List (List ℕ)) (heard : List Made)
    → AllHeard (sends list) i make frames heard → AllPromised (heard ++ list) → Order i make list frames heard
order list lawful promised₀ i make frames heard all promised =
    let (lawful', same) = heard_lawful list lawful i make frames heard all in
    let A = after list lawful promised₀ i make frames heard all promised in
    record {
      sound = list_sound (heard ++ list) lawful' promised;
      same_sends = same;
      after = A;
      sent = λ w k. here_sent (list_sound list lawful promised₀) (sends_read list lawful promised₀) all A w (inl k);
    }

module _ {i : ℕ} {make : Make} {list : List Made} {frames : List (List ℕ)} {heard : List Made} (O : Order i make list frames heard) where
  -- each log record stands in the log once, and each message waits once
  pub records_once : Nodup (records_at i (heard ++ list))
  records_once =
      names_once name_at (records_at i (heard ++ list))
      (λ n a. (O.sound.sites i).sound.log_sound.once n (subst⁻¹ (Ahead n n) (log_names i (heard ++ list)) a))

  pub waiting_once : Nodup (record_at i (heard ++ list)).waiting
  waiting_once = Distinct_once _ (O.sound.sites i).sound.waits.distinct

  -- the barrier is that after the messages handed
  pub exact : ListSound list → (k : ℕ)
      → Exact make (record_at i list).barrier O.after.handed (record_at i (heard ++ list)).barrier k
  exact L₀ k =
      let K = (L₀.sites i).sound.summary in
      let S = L₀.sends_sound in
      let L : LogSound (sends list) (log_with (log_at i list) O.after.handed) (dead (record_at i (heard ++ list))) =
      subst (λ ss. LogSound ss (log_with (log_at i list) O.after.handed) (dead (record_at i (heard ++ list)))) O.same_sends
      (subst (λ (l : List Name). LogSound (sends (heard ++ list)) l (dead (record_at i (heard ++ list)))) O.after.log (O.sound.sites i).sound.log_sound) in
      subst⁻¹ (λ (p : Panel). Exact make (record_at i list).barrier O.after.handed p.barrier k) O.after.panel
      (hand_all_exact (bare (given_to i make list)) O.after.handed K.barrier_64 (above_end S K O.after.handed L O.sent)
      (ordered_end S (log_at i list) O.after.handed L O.sent) k)

  -- what is in the log was there, or was handed
  pub log_split : (x : Name) → x is_in log_at i (heard ++ list) → (x is_in log_at i list) ⊎ ((w : Message) × (w is_in O.after.handed) × (name_of w ≡ x))
  log_split x k =
      ⊎_elim (λ j. inl j) (λ j. inr (Memᴰ.of_map name_of O.after.handed j))
      (Memᴰ.append_cases (log_at i list) (subst (λ (l : List Name). x is_in l) O.after.log k))

  pub log_was : (x : Name) → x is_in log_at i list → x is_in log_at i (heard ++ list)
  log_was x k = subst⁻¹ (λ (l : List Name). x is_in l) O.after.log (Memᴰ.append_left _ k)

  pub log_handed : (w : Message) → w is_in O.after.handed → name_of w is_in log_at i (heard ++ list)
  log_handed w k = subst⁻¹ (λ (l : List Name). name_of w is_in l) O.after.log (Memᴰ.append_right (log_at i list) (Memᴰ.map name_of k))

  -- what was handed or waits was not in the log
  pub new : (w : Message) → HereAt i O.after.handed (heard ++ list) w → ¬ (name_of w is_in log_at i list)
  new w (inl k) j =
      (O.sound.sites i).sound.log_sound.once (name_of w)
      (subst⁻¹ (Ahead (name_of w) (name_of w)) O.after.log (ahead_append _ _ (log_at i list) (map name_of O.after.handed) j (Memᴰ.map name_of k)))
  new w (inr k) j = (O.sound.sites i).sound.waits.unlogged w k (log_was (name_of w) j)
