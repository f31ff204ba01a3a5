-- A set-back call keeps what holds of a list. Assumes nothing.
use Prim.Native.Nat.{ℕ, min}
use native.Mathlib.Omega.{arith}
use mathlib.Core.Path.{refl, ap}
use mathlib.Core.List.{List, [], ◌∷◌, append-nil}
use Rattle.frame.specs.Refusal.{first_of}
use Rattle.rules.specs.Panel.{Make, Panel}
use Rattle.rules.specs.Calls.{with_time, setting_back}
use Rattle.rules.specs.Refusals.{set_back_checks}
use Rattle.rules.specs.Results.{set_back, done, defined}
use Rattle.rules.specs.Lists.{Made, given_to, frames_sent, frames_taken, names_in, log_at, time_after, sends}
use Rattle.rules.specs.Lapsing.{floor_after, still_taken}
use Rattle.rules.proofs.Ready.{dead-with_time, limit-with_time, ready-with_time}
use Rattle.rules.proofs.Sound.{PanelSound}
use Rattle.rules.proofs.Sites.{Site, site_at, site_for, SiteSound, of_make_lem}
use Rattle.rules.proofs.Steps.{ListSound, made, quiet_step, unless-step}

module _ (earlier : List Made) (L : ListSound earlier) (i : ℕ) (make : Make) (reading : ℕ) where
  abbrev site : Site
  site = site_for make (site_at i earlier)

  abbrev p : Panel
  p = given_to i make earlier

  given_sound : SiteSound (sends earlier) i site
  given_sound = of_make_lem make (L.sites i)

  abbrev lower : ℕ
  lower = min p.time reading

  -- the panel with its time lowered: what waited is still alive, and nothing is ready that was not
  lowered_sound : PanelSound (sends earlier) (log_at i earlier) (with_time p lower)
  lowered_sound =
      let G = given_sound.sound in
      record {
        log_sound = rw (dead-with_time p lower) G.log_sound;
        summary = G.summary;
        waits =
            record {
              sent = G.waits.sent;
              alive = λ w k. omega (arith, G.waits.alive w k, limit-with_time p lower (omega arith));
              unlogged = G.waits.unlogged;
              distinct = G.waits.distinct;
            };
        missing = G.missing;
      }

  site_sound : SiteSound (sends earlier) i
      (record {
        panel = with_time p lower;
        log = log_at i earlier;
        sent = site.sent;
        taken = site.taken;
        time = min site.time reading;
        floor = site.floor;
      })
  site_sound =
      let G = given_sound in
      record {
        own = G.own;
        time = ap (λ t. min t reading) G.time;
        floor = G.floor;
        sound = lowered_sound;
        few = G.few;
        settled = λ w k. ready-with_time p lower (omega arith) w (G.settled w k);
        sent = G.sent;
        taken = G.taken;
        mine = G.mine;
      }

  done_sound : ListSound (made i make (set_back reading) (done (setting_back p reading) [] [] []) ∷ earlier)
  unfolding frames_sent frames_taken still_taken time_after floor_after names_in done setting_back
  done_sound = quiet_step earlier L i make (set_back reading) _ refl (rw append-nil site_sound)

  pub set_back-step : ListSound (made i make (set_back reading) (defined p (set_back reading)) ∷ earlier)
  unfolding defined
  set_back-step =
      unless-step earlier L i make (set_back reading) (first_of (set_back_checks p)) [] [] (done (setting_back p reading) [] [] []) (λ e. done_sound)
