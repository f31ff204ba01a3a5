-- What the words of demand 3 say of one panel, together, and how a call changes them. Assumes nothing.
use Prim.Native.Nat.{ℕ, suc, ◌≤◌}
use mathlib.Core.Path.{◌≡◌, refl, ap, ◌∙◌}
use mathlib.Core.Logic.{◌⊎◌, ◌≢◌}
use mathlib.Core.Bool.{Bool, cond}
use mathlib.Core.List.{List, [], ◌∷◌, ◌++◌, map, append-nil}
use lib.ListN.{length}
use lib.Dec.{eqb-suc-zero}
use borrow.Author.Tests.{eq-eqb, ne_eqb}
use Rattle.frame.specs.Message.{Message}
use Rattle.rules.specs.Panel.{Name, name_of, Make, Panel, of_make}
use Rattle.rules.specs.Results.{Call, send, receive, clock, set_back, Result, refused}
use Rattle.rules.specs.Lists.{◌is_in◌, Made, on, record_at, frames_sent, frames_taken, name_in, sent_at, names_in, log_at, time_after, time_at, Sent, sends}
use Rattle.rules.specs.Lapsing.{floor_after, floor_at, still_taken, taken_at}
use Rattle.rules.proofs.Ready.{limit-of_make, dead-of_make, ready-of_make}
use Rattle.rules.proofs.Settling.{NoneReady}
use Rattle.rules.proofs.Cause.{name}
use Rattle.rules.proofs.Sound.{PanelSound}

-- the record of a panel, its log, the messages sent and taken there, its time and its floor
pub record Site : Type 0 where
  pub panel : Panel
  pub log : List Name
  pub sent : List Name
  pub taken : List Name
  pub time : ℕ
  pub floor : ℕ

abbrev pub site_at : ℕ → List Made → Site
site_at i list =
    record {
      panel = record_at i list;
      log = log_at i list;
      sent = sent_at i list;
      taken = taken_at i list;
      time = time_at i list;
      floor = floor_at i list;
    }

-- as a panel of that make works on it
abbrev pub site_for : Make → Site → Site
site_for make s =
    record { panel = of_make make s.panel; log = s.log; sent = s.sent; taken = s.taken; time = s.time; floor = s.floor }

-- with another log
abbrev site_log : Site → List Name → Site
site_log s log = record { panel = s.panel; log = log; sent = s.sent; taken = s.taken; time = s.time; floor = s.floor }

-- ---- a call changes the site of its panel, and no other

abbrev pub site_after : List Sent → Site → Call → Result → Site
site_after ss s call result =
    record {
      panel = result.panel;
      log = s.log ++ names_in result.count result.output;
      sent = map name_in (frames_sent call result) ++ s.sent;
      taken = map name_in (frames_taken call result) ++ still_taken s.log s.floor s.taken call result;
      time = time_after s.time call result;
      floor = floor_after ss (time_after s.time call result) s.floor s.log (names_in result.count result.output);
    }

-- the words, where it is known whether the call is one on the panel
site_if : Bool → List Sent → Site → Call → Result → Site
site_if here ss s call result =
    record {
      panel = cond here result.panel s.panel;
      log = s.log ++ cond here (names_in result.count result.output) [];
      sent = cond here (map name_in (frames_sent call result)) [] ++ s.sent;
      taken = cond here (map name_in (frames_taken call result) ++ still_taken s.log s.floor s.taken call result) s.taken;
      time = cond here (time_after s.time call result) s.time;
      floor =
          cond here
          (floor_after ss (cond here (time_after s.time call result) s.time) s.floor s.log (names_in result.count result.output))
          s.floor;
    }

site_at_site_if : (i : ℕ) (made : Made) (earlier : List Made)
    → site_at i (made ∷ earlier) ≡ site_if (on i made) (sends (made ∷ earlier)) (site_at i earlier) made.call made.result
unfolding site_if record_at log_at sent_at taken_at time_at floor_at
site_at_site_if i made earlier = refl

pub site_at_here : (made : Made) (earlier : List Made)
    → site_at made.at (made ∷ earlier) ≡ site_after (sends (made ∷ earlier)) (site_at made.at earlier) made.call made.result
unfolding site_if
site_at_here made earlier =
    site_at_site_if made.at made earlier
    ∙ ap (λ b. site_if b (sends (made ∷ earlier)) (site_at made.at earlier) made.call made.result) (eq-eqb made.at made.at refl)

pub site_at_other : (i : ℕ) (made : Made) (earlier : List Made) → i ≢ made.at → site_at i (made ∷ earlier) ≡ site_at i earlier
unfolding site_if
site_at_other i made earlier other =
    site_at_site_if i made earlier
    ∙ ap (λ b. site_if b (sends (made ∷ earlier)) (site_at i earlier) made.call made.result) (ne_eqb i made.at other)
    ∙ (λ j. site_log (site_at i earlier) (append-nil (log_at i earlier) j))

-- ---- a refused call changes nothing

pub site_after-refused : (ss : List Sent) (s : Site) (call : Call) (output buffer : List ℕ) (n : ℕ)
    → site_after ss s call (refused s.panel output buffer (suc n)) ≡ s
unfolding refused frames_sent frames_taken still_taken time_after floor_after names_in
site_after-refused ss s (send payload lifetime output' buffer') output buffer n = rw (eqb-suc-zero n) (λ j. site_log s (append-nil s.log j))
site_after-refused ss s (receive bytes output') output buffer n = rw (eqb-suc-zero n) (λ j. site_log s (append-nil s.log j))
site_after-refused ss s (clock time output') output buffer n = rw (eqb-suc-zero n) (λ j. site_log s (append-nil s.log j))
site_after-refused ss s (set_back reading) output buffer n = rw (eqb-suc-zero n) (λ j. site_log s (append-nil s.log j))

-- ---- what holds of a site between calls

-- where a message that counts as taken at a panel is
abbrev pub Placed : List Name → List Message → Name → Type 0
Placed log waiting n = (n is_in log) ⊎ ((w : Message) × (w is_in waiting) × (name_of w ≡ n))

pub record SiteSound (ss : List Sent) (i : ℕ) (s : Site) : Type 0 where
  pub own : s.panel.own ≡ i
  pub time : s.panel.time ≡ s.time
  pub floor : s.panel.floor ≡ s.floor
  pub sound : PanelSound ss s.log s.panel
  pub few : length s.panel.waiting ≤ 32
  pub settled : NoneReady s.panel
  pub sent : (n : Name) → n is_in s.sent → n is_in s.log
  pub taken : (n : Name) → n is_in s.taken → Placed s.log s.panel.waiting n
  pub mine : (t : Sent) → t is_in ss → (name t).source ≡ i → name t is_in s.log

-- the make makes no difference to it
pub of_make_lem : {ss : List Sent} {i : ℕ} {s : Site} (make : Make) → SiteSound ss i s → SiteSound ss i (site_for make s)
of_make_lem {s = s} make G =
    record {
      own = G.own;
      time = G.time;
      floor = G.floor;
      sound =
          record {
            log_sound = rw (dead-of_make s.panel make) G.sound.log_sound;
            summary = G.sound.summary;
            waits = rw (limit-of_make s.panel make) G.sound.waits;
            missing = G.sound.missing;
          };
      few = G.few;
      settled = λ w k. ready-of_make s.panel make w ∙ G.settled w k;
      sent = G.sent;
      taken = G.taken;
      mine = G.mine;
    }
