-- A send keeps what holds of a list. Assumes nothing.
use Prim.Native.Nat.{ℕ, ◌≤◌}
use native.Mathlib.Omega.{arith}
use mathlib.Core.Path.{◌≡◌, refl, sym, ap, ◌∙◌, subst, subst⁻¹}
use mathlib.Core.Logic.{inr, ◌≢◌}
use mathlib.Core.List.Memᴰ
use mathlib.Core.List.Memᴰ.{head as first}
use mathlib.Core.List.Memᴰ.{tail as later}
use mathlib.Core.List.{List, [], ◌∷◌, ◌++◌}
use lib.ListN.{length, take}
use Rattle.numbers.specs.Numbers.{Bytes}
use Rattle.numbers.specs.Buffer.{over}
use Rattle.numbers.proofs.Over.{take-over}
use Rattle.frame.specs.Message.{Message}
use Rattle.frame.specs.Frame.{frame}
use Rattle.frame.specs.Refusal.{first_of}
use Rattle.frame.specs.Reading.{message_from}
use Rattle.frame.proofs.Readable.{Readable}
use Rattle.frame.proofs.Theorems.{message_from-frame}
use Rattle.rules.specs.Sizes.{width}
use Rattle.rules.specs.Panel.{Name, name_of, Make, Panel}
use Rattle.rules.specs.Handing.{hand}
use Rattle.rules.specs.Calls.{hand_and_settle, send_deadline, new_message, emptied, sending}
use Rattle.rules.specs.Refusals.{send_checks}
use Rattle.rules.specs.Results.{send, Result, done, defined}
use Rattle.rules.specs.Lists.{◌is_in◌, Made, given_to, frames_sent, frames_taken, time_after, log_at, Sent, sends}
use Rattle.rules.specs.Lapsing.{floor_handed, still_taken}
use Rattle.rules.proofs.Ready.{limit, limit-send_deadline}
use Rattle.rules.proofs.Checks.{SendPassed, send_passed, new_readable}
use Rattle.rules.proofs.Handed.{sending-readable}
use Rattle.rules.proofs.Settling.{settle_settles}
use Rattle.rules.proofs.Cause.{carried, name, SendsSound}
use Rattle.rules.proofs.Sound.{barrier_logged, PanelSound}
use Rattle.rules.proofs.Floor.{hand_floor, floor_high}
use Rattle.rules.proofs.Sending.{New, sends_more, panel_more, own_sound}
use Rattle.rules.proofs.Keeping.{log_with, Keeps, keeps_hand, settle_keeps}
use Rattle.rules.proofs.Sites.{Site, site_at, site_for, site_after, SiteSound, of_make_lem}
use Rattle.rules.proofs.Steps.{ListSound, list_with, made, unless-step, site_done, site_after-done, placed_after, floor_after_lem}

module _ (earlier : List Made) (L : ListSound earlier) (i : ℕ) (make : Make) (payload : List ℕ) (lifetime : ℕ) (output buffer : List ℕ) where
  abbrev site : Site
  site = site_for make (site_at i earlier)

  abbrev p : Panel
  p = given_to i make earlier

  given_sound : SiteSound (sends earlier) i site
  given_sound = of_make_lem make (L.sites i)

  abbrev m : Message
  m = new_message p payload lifetime

  abbrev result : Result
  result = done (sending p payload lifetime) output (frame width m) buffer

  -- the frame as it stands in the buffer, with the log just before
  new : Sent
  new = record { frame = take (length (frame width m)) (over buffer 0 (frame width m)); past = log_at i earlier }

  -- it reads back as the message
  carried_is : Readable width m → carried new ≡ m
  unfolding new
  carried_is r = ap message_from (take-over buffer (frame width m)) ∙ message_from-frame width m (omega arith) r

  -- the message is a new one, whose entries name messages of the log and cover it
  m_new : Readable width m → New (sends earlier) m (log_at i earlier)
  unfolding new_message send_deadline
  m_new r =
      let G = given_sound in
      let K = G.sound.summary in
      record {
        readable = r;
        rising = λ x k. omega (arith, K.below_high x k);
        own = λ s k q. G.mine s k (q ∙ G.own);
        known = G.sound.log_sound.known;
        entry = barrier_logged K;
        cover = K.barrier_covers;
      }

  own_source : m.source ≡ i
  unfolding new_message
  own_source = given_sound.own

  alive : limit p ≤ m.deadline
  unfolding new_message
  alive = limit-send_deadline p lifetime (floor_high L.sends_sound given_sound.sound)

  -- a send that passes the checks
  module _ (P : SendPassed p payload lifetime output buffer) (bytes : Bytes payload) where
    readable : Readable width m
    readable = new_readable p payload lifetime output buffer P given_sound.sound.summary.barrier_64 bytes

    carried_new : New (sends earlier) (carried new) new.past
    unfolding new
    carried_new = subst⁻¹ (λ x. New (sends earlier) x (log_at i earlier)) (carried_is readable) (m_new readable)

    sends_sound : SendsSound (new ∷ sends earlier)
    sends_sound = sends_more L.sends_sound new carried_new

    -- it is handed with an emptied barrier
    handed_sound : PanelSound (new ∷ sends earlier) (log_at i earlier ++ (name_of m ∷ [])) (hand (emptied p) m)
    unfolding new
    handed_sound =
        subst (λ x. PanelSound (new ∷ sends earlier) (log_at i earlier ++ (name_of x ∷ [])) (hand (emptied p) x)) (carried_is readable)
        (own_sound L.sends_sound new carried_new p given_sound.sound (subst⁻¹ (λ (x : Message). limit p ≤ x.deadline) (carried_is readable) alive))

    -- and the panel settles
    keeps : Keeps (new ∷ sends earlier) (log_at i earlier) p (sending p payload lifetime)
    unfolding sending hand_and_settle
    keeps = keeps_hand (emptied p) m refl floor (λ w k. inr k) (settle_keeps sends_sound (hand (emptied p) m) _ handed_sound)
      where
        floor : (hand (emptied p) m).floor ≡ floor_handed (new ∷ sends earlier) p.time p.floor (log_at i earlier) (name_of m)
        floor =
            hand_floor sends_sound (emptied p) (panel_more L.sends_sound new carried_new given_sound.sound).summary m
            (new, first refl, carried_is readable)

    abbrev site' : Site
    site' = site_done (new ∷ sends earlier) site (sending p payload lifetime) (name new ∷ site.sent) site.taken site.time

    site_sound : SiteSound (new ∷ sends earlier) i site'
    unfolding sending hand_and_settle hand
    site_sound =
        let G = given_sound in
        let T = settle_settles (hand (emptied p) m) in
        record {
          own = T.own ∙ G.own;
          time = T.time ∙ G.time;
          floor = floor_after_lem keeps G.time G.floor;
          sound = keeps.sound;
          few = omega (arith, T.count, G.few);
          settled = T.settled;
          sent = sent;
          taken = λ n k. placed_after keeps n (G.taken n k);
          mine = mine;
        }
      where
        in_log : name new is_in log_with (log_at i earlier) (sending p payload lifetime).handed
        in_log = Memᴰ.append_right (log_at i earlier) (first (ap name_of (carried_is readable)))

        sent : (n : Name) → n is_in name new ∷ site.sent → n is_in log_with (log_at i earlier) (sending p payload lifetime).handed
        sent n (first e) = Memᴰ.cast e in_log
        sent n (later k) = Memᴰ.append_left _ (given_sound.sent n k)

        mine : (s : Sent) → s is_in new ∷ sends earlier → (name s).source ≡ i → name s is_in log_with (log_at i earlier) (sending p payload lifetime).handed
        mine s (first e) q = Memᴰ.cast (ap name e) in_log
        mine s (later k) q = Memᴰ.append_left _ (given_sound.mine s k q)

    -- at the other panels nothing changes
    others : (j : ℕ) → j ≢ i → SiteSound (new ∷ sends earlier) j (site_at j earlier)
    others j other =
        let G = L.sites j in
        record {
          own = G.own;
          time = G.time;
          floor = G.floor;
          sound = panel_more L.sends_sound new carried_new G.sound;
          few = G.few;
          settled = G.settled;
          sent = G.sent;
          taken = G.taken;
          mine = mine;
        }
      where
        mine : (s : Sent) → s is_in new ∷ sends earlier → (name s).source ≡ j → name s is_in log_at j earlier
        mine s (first e) q =
            absurd (other (sym q ∙ ap (λ (a : Sent). (name a).source) e ∙ ap (λ (x : Message). x.source) (carried_is readable) ∙ own_source))
        mine s (later k) q = (L.sites j).mine s k q

    sends-done : sends (made i make (send payload lifetime output buffer) result ∷ earlier) ≡ new ∷ sends earlier
    unfolding sends frames_sent done new
    sends-done = refl

    site_done_lem : site_after (new ∷ sends earlier) site (send payload lifetime output buffer) result ≡ site'
    unfolding frames_sent frames_taken still_taken time_after done new
    site_done_lem = site_after-done (new ∷ sends earlier) site (send payload lifetime output buffer) (sending p payload lifetime) output (frame width m) buffer
        (sending-readable p payload lifetime P.valid.waiting readable)

    done_sound : ListSound (made i make (send payload lifetime output buffer) result ∷ earlier)
    done_sound =
        list_with _ earlier (new ∷ sends earlier) sends-done sends_sound (subst⁻¹ (SiteSound (new ∷ sends earlier) i) site_done_lem site_sound) others

  pub send-step : Bytes payload → ListSound (made i make (send payload lifetime output buffer) (defined p (send payload lifetime output buffer)) ∷ earlier)
  unfolding defined
  send-step bytes =
      unless-step earlier L i make (send payload lifetime output buffer) (first_of (send_checks p payload lifetime output buffer)) output buffer result
      (λ e. done_sound (send_passed p payload lifetime output buffer e) bytes)
