-- A receive keeps what holds of a list. Assumes nothing.
use Prim.Native.Nat.{ℕ, ◌<◌}
use native.Mathlib.Omega.{arith}
use mathlib.Core.Path.{◌≡◌, refl, sym, ◌∙◌, subst, subst⁻¹}
use mathlib.Core.Logic.{inl, inr, ⊎_elim}
use mathlib.Core.Bool.{true, true≢false}
use mathlib.Core.List.Memᴰ
use mathlib.Core.List.Memᴰ.{head as first}
use mathlib.Core.List.Memᴰ.{tail as later}
use mathlib.Core.List.{List, [], ◌∷◌, ◌++◌}
use lib.ListN.{length, length-append}
use Rattle.frame.specs.Message.{Message}
use Rattle.frame.specs.Refusal.{first_of}
use Rattle.frame.specs.Reading.{refusal_of, message_from}
use Rattle.frame.proofs.Readable.{Readable}
use Rattle.frame.proofs.Theorems.{reads_alike}
use Rattle.rules.specs.Sizes.{width}
use Rattle.rules.specs.Panel.{Name, name_of, Make, Panel, ready}
use Rattle.rules.specs.Handing.{hand}
use Rattle.rules.specs.Settling.{Settled, with_waiting, settle}
use Rattle.rules.specs.Calls.{hand_and_settle, receiving}
use Rattle.rules.specs.Refusals.{receive_checks}
use Rattle.rules.specs.Results.{receive, refused, done, unless, defined}
use Rattle.rules.specs.Lists.{◌is_in◌, Made, given_to, frames_sent, frames_taken, time_after, log_at, sends, Given}
use Rattle.rules.specs.Lapsing.{still_taken}
use Rattle.rules.proofs.Booleans.{cond_both}
use Rattle.rules.proofs.WaitingList.{is_in_end, Distinct_end}
use Rattle.rules.proofs.Handed.{receiving-readable}
use Rattle.rules.proofs.Checks.{ReceivePassed, receive_passed}
use Rattle.rules.proofs.Settling.{settle_settles}
use Rattle.rules.proofs.Sound.{WasSent, PanelSound}
use Rattle.rules.proofs.Floor.{hand_floor}
use Rattle.rules.proofs.Handing.{hand-ready}
use Rattle.rules.proofs.Keeping.{log_with, Keeps, sound_with_waiting, keeps_hand, settle_keeps}
use Rattle.rules.proofs.Sites.{Site, site_at, site_for, site_after, Placed, SiteSound, of_make_lem}
use Rattle.rules.proofs.Steps.{ListSound, made, quiet_step, unless-step, site_done, site_after-done, placed_after, floor_after_lem}

module _ (earlier : List Made) (L : ListSound earlier) (i : ℕ) (make : Make) (bytes output : List ℕ) where
  abbrev site : Site
  site = site_for make (site_at i earlier)

  abbrev p : Panel
  p = given_to i make earlier

  given_sound : SiteSound (sends earlier) i site
  given_sound = of_make_lem make (L.sites i)

  abbrev m : Message
  m = message_from bytes

  abbrev log : List Name
  log = log_at i earlier

  -- a receive that passes the checks, of a frame that was sent
  module _ (P : ReceivePassed p bytes output m) (was_sent : WasSent (sends earlier) m) where
    readable : Readable width m
    readable = let (s, k, e) = was_sent in subst (Readable width) e (L.sends_sound.readable s k)

    unlogged : ¬ (name_of m is_in log)
    unlogged k = omega (arith, given_sound.sound.summary.below_mark _ k, P.above_mark)

    -- the site after the call
    abbrev after : Settled → Site
    after settled = site_done (sends earlier) site settled site.sent (name_of m ∷ site.taken) site.time

    -- ---- it is handed

    handed_keeps : ready p m ≡ true → Keeps (sends earlier) log p (hand_and_settle p m)
    unfolding hand_and_settle
    handed_keeps r =
        keeps_hand p m refl (hand_floor L.sends_sound p given_sound.sound.summary m was_sent) (λ w k. inr k)
        (settle_keeps L.sends_sound (hand p m) _
        (hand-ready L.sends_sound given_sound.sound m was_sent P.alive unlogged r P.not_waiting))

    handed_sound : ready p m ≡ true → SiteSound (sends earlier) i (after (hand_and_settle p m))
    unfolding hand_and_settle hand
    handed_sound r =
        let G = given_sound in
        let T = settle_settles (hand p m) in
        record {
          own = T.own ∙ G.own;
          time = T.time ∙ G.time;
          floor = floor_after_lem (handed_keeps r) G.time G.floor;
          sound = (handed_keeps r).sound;
          few = omega (arith, T.count, G.few);
          settled = T.settled;
          sent = λ n k. Memᴰ.append_left _ (G.sent n k);
          taken = taken;
          mine = λ s k q. Memᴰ.append_left _ (G.mine s k q);
        }
      where
        taken : (n : Name) → n is_in name_of m ∷ site.taken → Placed (log_with log (hand_and_settle p m).handed) (hand_and_settle p m).panel.waiting n
        taken n (first e) = inl (Memᴰ.append_right log (first e))
        taken n (later k) = placed_after (handed_keeps r) n (given_sound.taken n k)

    -- ---- it goes to the end of the list

    abbrev q : Panel
    q = with_waiting p (p.waiting ++ (m ∷ []))

    waiting_sound : PanelSound (sends earlier) log q
    waiting_sound =
        let G = given_sound.sound in
        let W = G.waits in
        sound_with_waiting p (p.waiting ++ (m ∷ [])) G.log_sound G.summary G.missing
        (record {
          sent = λ w k. ⊎_elim (W.sent w) (λ e. rw e was_sent) (is_in_end p.waiting k);
          alive = λ w k. ⊎_elim (W.alive w) (λ e. rw e P.alive) (is_in_end p.waiting k);
          unlogged = λ w k. ⊎_elim (W.unlogged w) (λ e. rw e unlogged) (is_in_end p.waiting k);
          distinct = Distinct_end p.waiting m W.distinct P.not_waiting;
        })

    waiting_keeps : Keeps (sends earlier) log q (settle q)
    waiting_keeps = settle_keeps L.sends_sound q log waiting_sound

    waits_sound : length p.waiting < 32 → SiteSound (sends earlier) i (after (settle q))
    waits_sound room =
        let G = given_sound in
        let T = settle_settles q in
        record {
          own = T.own ∙ G.own;
          time = T.time ∙ G.time;
          floor = floor_after_lem waiting_keeps G.time G.floor;
          sound = waiting_keeps.sound;
          few = omega (arith, T.count, length-append p.waiting (m ∷ []));
          settled = T.settled;
          sent = λ n k. Memᴰ.append_left _ (G.sent n k);
          taken = λ n k. placed_after waiting_keeps n (taken n k);
          mine = λ s k q. Memᴰ.append_left _ (G.mine s k q);
        }
      where
        widen : {n : Name} → Placed log p.waiting n → Placed log (p.waiting ++ (m ∷ [])) n
        widen (inl k) = inl k
        widen (inr (w, k, e)) = inr (w, Memᴰ.append_left _ k, e)

        taken : (n : Name) → n is_in name_of m ∷ site.taken → Placed log (p.waiting ++ (m ∷ [])) n
        taken n (first e) = inr (m, Memᴰ.append_right p.waiting (first refl), sym e)
        taken n (later k) = widen (given_sound.taken n k)

    -- ---- either way

    receiving_sound : SiteSound (sends earlier) i (after (receiving p m))
    unfolding receiving
    receiving_sound =
        cond_both (λ (s : Settled). SiteSound (sends earlier) i (after s)) (ready p m)
        handed_sound (λ r. waits_sound (⊎_elim (λ l. l) (λ t. absurd (true≢false (sym t ∙ r))) P.room))

    site_done_lem : site_after (sends earlier) site (receive bytes output) (done (receiving p m) output [] []) ≡ after (receiving p m)
    unfolding frames_sent frames_taken still_taken time_after done
    site_done_lem = site_after-done (sends earlier) site (receive bytes output) (receiving p m) output [] [] (receiving-readable p m P.valid.waiting readable)

    done_sound : ListSound (made i make (receive bytes output) (done (receiving p m) output [] []) ∷ earlier)
    unfolding frames_sent
    done_sound = quiet_step earlier L i make (receive bytes output) _ refl (subst⁻¹ (SiteSound (sends earlier) i) site_done_lem receiving_sound)

  -- where the call is not refused, the message was sent
  given_sent : (number : ℕ) → number ≡ 0 → refusal_of bytes ≡ 0
      → Given (sends earlier) (receive bytes output) (unless number (refused p output []) (done (receiving p m) output [] [])) → WasSent (sends earlier) m
  unfolding Given unless done
  given_sent number e reads (inl (s, k, f)) = (s, k, (reads_alike s.frame bytes reads (sym f)).1)
  given_sent number e reads (inr refuses) = absurd ((rw e at refuses) refl)

  pub receive-step : Given (sends earlier) (receive bytes output) (defined p (receive bytes output))
      → ListSound (made i make (receive bytes output) (defined p (receive bytes output)) ∷ earlier)
  unfolding defined
  receive-step given =
      unless-step earlier L i make (receive bytes output) (first_of (receive_checks p bytes output)) output [] (done (receiving p m) output [] [])
      (λ e.
      let P = receive_passed p bytes output e in
      done_sound P (given_sent (first_of (receive_checks p bytes output)) e P.read given))
