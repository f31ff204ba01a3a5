-- A clock call keeps what holds of a list. Assumes nothing.
use Prim.Native.Nat.{ℕ, ◌≤◌}
use native.Mathlib.Omega.{arith}
use mathlib.Core.Path.{◌≡◌, refl, ap, ◌∙◌, subst⁻¹}
use mathlib.Core.Logic.{◌⊎◌, inl, inr, ⊎_elim}
use mathlib.Core.Bool.{false}
use mathlib.Core.List.Memᴰ
use mathlib.Core.List.{List, [], ◌∷◌}
use Rattle.frame.specs.Refusal.{first_of}
use Rattle.rules.specs.Panel.{Name, Make, Panel, has_lapsed, lapsed}
use Rattle.rules.specs.Settling.{settle}
use Rattle.rules.specs.Calls.{with_time, alive, drop_lapsed, clocking}
use Rattle.rules.specs.Refusals.{clock_checks}
use Rattle.rules.specs.Results.{clock, done, defined}
use Rattle.rules.specs.Lists.{◌is_in◌, Made, given_to, frames_sent, frames_taken, time_after, log_at, sends}
use Rattle.rules.specs.Lapsing.{not_dropped, still_taken}
use Rattle.rules.proofs.Ready.{limit, lapsed-false, dead, dead-with_time}
use Rattle.rules.proofs.WaitingList.{is_in_alive, alive_is_in, Distinct-alive, length-alive}
use Rattle.rules.proofs.Handed.{clocking-readable}
use Rattle.rules.proofs.Checks.{ClockPassed, clock_passed}
use Rattle.rules.proofs.Settling.{settle_settles}
use Rattle.rules.proofs.Sound.{LogSound, WaitingSound}
use Rattle.rules.proofs.Floor.{is_in_not_dropped}
use Rattle.rules.proofs.Keeping.{Keeps, sound_with_waiting, settle_keeps}
use Rattle.rules.proofs.Sites.{Site, site_at, site_for, site_after, Placed, SiteSound, of_make_lem}
use Rattle.rules.proofs.Steps.{ListSound, made, quiet_step, unless-step, site_done, site_after-done, placed_after, floor_after_lem}

module _ (earlier : List Made) (L : ListSound earlier) (i : ℕ) (make : Make) (time : ℕ) (output : List ℕ) where
  abbrev site : Site
  site = site_for make (site_at i earlier)

  abbrev p : Panel
  p = given_to i make earlier

  given_sound : SiteSound (sends earlier) i site
  given_sound = of_make_lem make (L.sites i)

  abbrev log : List Name
  log = log_at i earlier

  -- the panel at the new time, without what has lapsed
  abbrev q : Panel
  q = drop_lapsed (with_time p time)

  -- a clock call that passes the checks
  module _ (P : ClockPassed p time output) where
    time_sound : LogSound (sends earlier) log (dead (with_time p time))
    time_sound =
        let G = given_sound.sound.log_sound in
        record {
          known = G.known;
          whole = λ x y k b. ⊎_elim (λ a. inl a) (λ d. inr (omega (arith, d, dead-with_time p time))) (G.whole x y k b);
          once = G.once;
          order = G.order;
        }

    alive_sound : WaitingSound (sends earlier) log (limit (with_time p time)) (alive (with_time p time) p.waiting)
    alive_sound =
        let W = given_sound.sound.waits in
        record {
          sent = λ w k. W.sent w (is_in_alive (with_time p time) _ w k).0;
          alive = λ w k. (is_in_alive (with_time p time) _ w k).1;
          unlogged = λ w k. W.unlogged w (is_in_alive (with_time p time) _ w k).0;
          distinct = Distinct-alive (with_time p time) _ W.distinct;
        }

    keeps : Keeps (sends earlier) log q (settle q)
    keeps =
        settle_keeps L.sends_sound q log
        (sound_with_waiting (with_time p time) (alive (with_time p time) p.waiting) time_sound given_sound.sound.summary
        given_sound.sound.missing alive_sound)

    abbrev stays : List Name
    stays = not_dropped log time site.floor site.taken

    -- what is not dropped has its place
    taken_later : (n : Name) → n is_in stays → Placed log q.waiting n
    unfolding lapsed
    taken_later n k = let (t, kept) = is_in_not_dropped log time site.floor site.taken n k in go (given_sound.taken n t) kept
      where
        go : Placed log p.waiting n → (n is_in log) ⊎ (has_lapsed time site.floor n.deadline ≡ false) → Placed log q.waiting n
        go (inl a) kept = inl a
        go (inr place) (inl a) = inl a
        go (inr (w, j, e)) (inr live) =
            ⊎_elim (λ a. inr (w, a, e))
            (λ lt. absurd (omega (arith, lt, ap (λ (a : Name). a.deadline) e, above)))
            (alive_is_in (with_time p time) p.waiting w j)
          where
            above : limit (with_time p time) ≤ n.deadline
            above = lapsed-false (with_time p time) n.deadline (ap (λ f. has_lapsed time f n.deadline) given_sound.floor ∙ live)

    abbrev site' : Site
    site' = site_done (sends earlier) site (clocking p time) site.sent stays time

    clocking_sound : SiteSound (sends earlier) i site'
    unfolding clocking
    clocking_sound =
        let G = given_sound in
        let T = settle_settles q in
        record {
          own = T.own ∙ G.own;
          time = T.time;
          floor = floor_after_lem keeps refl G.floor;
          sound = keeps.sound;
          few = omega (arith, T.count, length-alive (with_time p time) p.waiting, G.few);
          settled = T.settled;
          sent = λ n k. Memᴰ.append_left _ (G.sent n k);
          taken = λ n k. placed_after keeps n (taken_later n k);
          mine = λ s k e. Memᴰ.append_left _ (G.mine s k e);
        }

    site_done_lem : site_after (sends earlier) site (clock time output) (done (clocking p time) output [] []) ≡ site'
    unfolding frames_sent frames_taken still_taken time_after done
    site_done_lem = site_after-done (sends earlier) site (clock time output) (clocking p time) output [] [] (clocking-readable p time P.valid.waiting)

    done_sound : ListSound (made i make (clock time output) (done (clocking p time) output [] []) ∷ earlier)
    unfolding frames_sent
    done_sound = quiet_step earlier L i make (clock time output) _ refl (subst⁻¹ (SiteSound (sends earlier) i) site_done_lem clocking_sound)

  pub clock-step : ListSound (made i make (clock time output) (defined p (clock time output)) ∷ earlier)
  unfolding defined
  clock-step =
      unless-step earlier L i make (clock time output) (first_of (clock_checks p time output)) output [] (done (clocking p time) output [] [])
      (λ e. done_sound (clock_passed p time output e))
