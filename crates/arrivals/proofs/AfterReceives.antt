-- Some frames are received at a panel, after a list: what they hand, and what is handed or waits then. Assumes nothing.
use Prim.Native.Nat.{ℕ}
use native.Mathlib.Decide.{ℕ_discrete}
use native.Mathlib.Omega.{arith}
use mathlib.Core.Path.{◌≡◌, refl, sym, ap, ◌∙◌, subst, subst⁻¹}
use mathlib.Core.Logic.{◌⊎◌, inl, inr, ⊎_elim, ◌≢◌, by_cases}
use mathlib.Core.List.Memᴰ
use mathlib.Core.List.Memᴰ.{head as first}
use mathlib.Core.List.Memᴰ.{tail as later}
use mathlib.Core.List.{List, [], ◌∷◌, ◌++◌, map, map-append, append_assoc, append-nil}
use Rattle.frame.specs.Message.{Message}
use Rattle.frame.specs.Reading.{message_from}
use Rattle.rules.specs.Panel.{Name, name_of, Make, Panel, of_make}
use Rattle.rules.specs.Handing.{log_record}
use Rattle.rules.specs.Settling.{Settled}
use Rattle.rules.specs.Results.{receive, Result, defined}
use Rattle.rules.specs.Lists.{◌is_in◌, Made, record_at, given_to, name_in, names_in, log_at, sends}
use Rattle.rules.proofs.Ready.{limit, limit-with_waiting}
use Rattle.rules.proofs.Keeping.{log_with}
use Rattle.rules.proofs.Sites.{Placed}
use Rattle.arrivals.specs.Arrival.{Heard, records_in, records_at}
use Rattle.arrivals.proofs.SentFrames.{SentIn}
use Rattle.arrivals.proofs.Records.{record_here, log_here, records_here}
use Rattle.arrivals.proofs.HandAll.{bare, hand_all, hand_all-append, hand_all_own, hand_all_time, hand_all-limit, hand_all-of_make}
use Rattle.arrivals.proofs.Receiving.{Takeable, Here, Received}
use Rattle.arrivals.proofs.TurnedDown.{turned_down}

-- ---- what holds after the receives

-- w was handed meanwhile, or waits
abbrev pub HereAt : ℕ → List Message → List Made → Message → Type 0
HereAt i handed list w = (w is_in handed) ⊎ (w is_in (record_at i list).waiting)

-- w is the message of one of the frames, and can be taken
abbrev pub FromFrames : Panel → List (List ℕ) → Message → Type 0
FromFrames p frames w = (frame : List ℕ) × (frame is_in frames) × (message_from frame ≡ w) × Takeable p w

pub record After (i : ℕ) (make : Make) (list : List Made) (frames : List (List ℕ)) (heard : List Made) : Type 0 where
  -- the messages handed meanwhile, in order
  pub handed : List Message
  pub panel : bare (given_to i make (heard ++ list)) ≡ hand_all (bare (given_to i make list)) handed
  pub log : log_at i (heard ++ list) ≡ log_with (log_at i list) handed
  pub records : records_at i (heard ++ list) ≡ records_at i list ++ map log_record handed
  -- what waited, and what can be taken of the frames and was not in the log, was handed or waits; and nothing else
  pub kept : (w : Message) → w is_in (record_at i list).waiting → HereAt i handed (heard ++ list) w
  pub came : (frame : List ℕ) → frame is_in frames → Takeable (given_to i make list) (message_from frame)
      → (name_in frame is_in log_at i list) ⊎ HereAt i handed (heard ++ list) (message_from frame)
  pub only : (w : Message) → HereAt i handed (heard ++ list) w → (w is_in (record_at i list).waiting) ⊎ FromFrames (given_to i make list) frames w

module _ {i : ℕ} {make : Make} {list : List Made} {frames : List (List ℕ)} {heard : List Made} (A : After i make list frames heard) where
  pub same_limit : limit (given_to i make (heard ++ list)) ≡ limit (given_to i make list)
  same_limit =
      sym (limit-with_waiting (given_to i make (heard ++ list)) []) ∙ ap limit A.panel
      ∙ hand_all-limit (bare (given_to i make list)) A.handed ∙ limit-with_waiting (given_to i make list) []

  same_own : (record_at i (heard ++ list)).own ≡ (record_at i list).own
  same_own = ap (λ (q : Panel). q.own) A.panel ∙ hand_all_own (bare (given_to i make list)) A.handed

  pub same_time : (record_at i (heard ++ list)).time ≡ (record_at i list).time
  same_time = ap (λ (q : Panel). q.time) A.panel ∙ hand_all_time (bare (given_to i make list)) A.handed

pub none_heard : (i : ℕ) (make : Make) (list : List Made) → After i make list [] []
unfolding hand_all
none_heard i make list =
    record {
      handed = [];
      panel = refl;
      log = sym (append-nil (log_at i list));
      records = sym (append-nil (records_at i list));
      kept = λ w k. inr k;
      came = λ frame k. elim k [ ];
      only = λ w h. inl (⊎_elim (λ k. elim k [ ]) (λ k. k) h);
    }

-- ---- one more

module _ {i : ℕ} {make : Make} {list : List Made} {frames : List (List ℕ)} {heard : List Made} (A : After i make list frames heard) where
  abbrev earlier : List Made
  earlier = heard ++ list

  abbrev p : Panel
  p = given_to i make earlier

  abbrev p₀ : Panel
  p₀ = given_to i make list

  -- what can be taken stays what it was
  takeable_now : (w : Message) → Takeable p₀ w → Takeable p w
  takeable_now w (own, alive, near) = (omega (arith, same_own A), omega (arith, same_limit A), omega (arith, same_time A))

  takeable_then : (w m : Message) → w ≡ m → Takeable p m → Takeable p₀ w
  takeable_then w m e (own, alive, near) =
      let deadline = ap (λ (x : Message). x.deadline) e in
      (omega (arith, same_own A, own), omega (arith, same_limit A, deadline, alive), omega (arith, same_time A, deadline, near))

  -- what a receive of a frame gave
  module _ {frame : List ℕ} {last : Made} (H : Heard (sends list) i make frame last) (promise : last.result ≡ defined p (receive frame H.output))
      {s : Settled} (R : Received p (message_from frame) (defined p (receive frame H.output)) s) where
    abbrev m : Message
    m = message_from frame

    abbrev now : List Made
    now = last ∷ earlier

    abbrev handed : List Message
    handed = A.handed ++ s.handed

    record_now : record_at i now ≡ s.panel
    record_now = record_here i last earlier H.there ∙ ap (λ (r : Result). r.panel) promise ∙ R.left

    panel_now : bare (given_to i make now) ≡ hand_all (bare p₀) handed
    panel_now =
        ap (λ (q : Panel). bare (of_make make q)) record_now
        ∙ ap (of_make make) R.hands
        ∙ hand_all-of_make make (bare (record_at i earlier)) s.handed
        ∙ ap (λ (q : Panel). hand_all q s.handed) A.panel
        ∙ sym (hand_all-append (bare p₀) A.handed s.handed)

    log_now : log_at i now ≡ log_with (log_at i list) handed
    log_now =
        log_here i last earlier H.there
        ∙ (λ j. A.log j ++ (ap (λ (r : Result). names_in r.count r.output) promise ∙ R.names) j)
        ∙ append_assoc (log_at i list) (map name_of A.handed) (map name_of s.handed)
        ∙ ap (λ (l : List Name). log_at i list ++ l) (sym (map-append name_of A.handed s.handed))

    records_now : records_at i now ≡ records_at i list ++ map log_record handed
    records_now =
        records_here i last earlier H.there
        ∙ (λ j. A.records j ++ (ap (λ (r : Result). records_in r.count r.output) promise ∙ R.records) j)
        ∙ append_assoc (records_at i list) (map log_record A.handed) (map log_record s.handed)
        ∙ ap (λ (l : List (List ℕ)). records_at i list ++ l) (sym (map-append log_record A.handed s.handed))

    here_now : (w : Message) → Here s w → HereAt i handed now w
    here_now w (inl k) = inl (Memᴰ.append_right A.handed k)
    here_now w (inr k) = inr (subst⁻¹ (λ (q : Panel). w is_in q.waiting) record_now k)

    stays : (w : Message) → HereAt i A.handed earlier w → HereAt i handed now w
    stays w (inl k) = inl (Memᴰ.append_left s.handed k)
    stays w (inr k) = here_now w (R.kept w k)

    only_now : (w : Message) → HereAt i handed now w → (w is_in (record_at i list).waiting) ⊎ FromFrames p₀ (frame ∷ frames) w
    only_now w h = split h
      where
        before : (w is_in (record_at i list).waiting) ⊎ FromFrames p₀ frames w → (w is_in (record_at i list).waiting) ⊎ FromFrames p₀ (frame ∷ frames) w
        before (inl k) = inl k
        before (inr (f, k, e, t)) = inr (f, later k, e, t)

        new : Here s w → (w is_in (record_at i list).waiting) ⊎ FromFrames p₀ (frame ∷ frames) w
        new h =
            ⊎_elim (λ k. before (A.only w (inr k))) (λ (q : (w ≡ m) × Takeable p m). inr (frame, first refl, sym q.0, takeable_then w m q.0 q.1))
            (R.only w h)

        split : HereAt i handed now w → (w is_in (record_at i list).waiting) ⊎ FromFrames p₀ (frame ∷ frames) w
        split (inl k) = ⊎_elim (λ j. before (A.only w (inl j))) (λ j. new (inl j)) (Memᴰ.append_cases A.handed k)
        split (inr k) = new (inr (subst (λ (q : Panel). w is_in q.waiting) record_now k))

    -- the frame was sent, and no other message has the name of this one
    module _ (F : SentIn earlier frame)
        (unique : (w : Message) → HereAt i A.handed earlier w → name_of w ≡ name_of m → w ≡ m) where
      placed : Placed (log_at i earlier) p.waiting (name_of m) → (name_of m is_in log_at i list) ⊎ HereAt i handed now m
      placed (inl k) =
          ⊎_elim (λ j. inl j)
          (λ j. let (w, l, e) = Memᴰ.of_map name_of A.handed j in inr (stays m (inl (Memᴰ.cast (sym (unique w (inl l) e)) l))))
          (Memᴰ.append_cases (log_at i list) (subst (λ (l : List Name). name_of m is_in l) A.log k))
      placed (inr (w, k, e)) = inr (stays m (inr (Memᴰ.cast (sym (unique w (inr k) e)) k)))

      this_came : Takeable p₀ m → (name_of m is_in log_at i list) ⊎ HereAt i handed now m
      this_came t =
          by_cases (ℕ_discrete (defined p (receive frame H.output)).number 0) (λ z. inr (here_now m (R.taken z)))
          (λ refuses.
          placed (turned_down earlier i make frame H.output F H.long_enough refuses (subst (λ (r : Result). r.number ≢ 23) promise H.not_23)
          (takeable_now m t)))

      came_now : (f : List ℕ) → f is_in frame ∷ frames → Takeable p₀ (message_from f)
          → (name_in f is_in log_at i list) ⊎ HereAt i handed now (message_from f)
      came_now f (first e) t =
          subst⁻¹ (λ x. Takeable p₀ (message_from x) → (name_in x is_in log_at i list) ⊎ HereAt i handed now (message_from x)) e this_came t
      came_now f (later k) t = ⊎_elim (λ j. inl j) (λ h. inr (stays (message_from f) h)) (A.came f k t)

      pub one_heard : After i make list (frame ∷ frames) (last ∷ heard)
      one_heard =
          record {
            handed = handed;
            panel = panel_now;
            log = log_now;
            records = records_now;
            kept = λ w k. stays w (A.kept w k);
            came = came_now;
            only = only_now;
          }
