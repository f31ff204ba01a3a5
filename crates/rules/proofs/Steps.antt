-- Each call, refused or not, keeps what holds of a list. Assumes nothing.
use Prim.Native.Nat.{ℕ, zero, suc}
use native.Mathlib.Decide.{ℕ_discrete}
use mathlib.Core.Path.{◌≡◌, refl, sym, ◌∙◌, subst⁻¹}
use mathlib.Core.Logic.{inl, inr, ⊎_elim, ◌≢◌, by_cases}
use mathlib.Core.List.Memᴰ
use mathlib.Core.List.{List, [], ◌∷◌, ◌++◌, map}
use lib.Dec.{eqb-suc-zero}
use Rattle.rules.specs.Panel.{Name, name_of, Make, Panel}
use Rattle.rules.specs.Settling.{Settled}
use Rattle.rules.specs.Results.{Call, send, receive, clock, set_back, Result, refused, done, unless}
use Rattle.rules.specs.Lists.{Made, given_to, frames_sent, frames_taken, name_in, time_after, Sent, sends}
use Rattle.rules.specs.Lapsing.{floor_after, still_taken}
use Rattle.rules.proofs.LogRecords.{EachReadable, names_in-over}
use Rattle.rules.proofs.Cause.{SendsSound}
use Rattle.rules.proofs.Keeping.{log_with, Keeps}
use Rattle.rules.proofs.Sites.{Site, site_at, site_for, site_after, site_at_here, site_at_other, site_after-refused, Placed, SiteSound, of_make_lem}

pub record ListSound (list : List Made) : Type 0 where
  pub sends_sound : SendsSound (sends list)
  pub sites : (i : ℕ) → SiteSound (sends list) i (site_at i list)

-- ---- one more call

-- from what holds of the messages sent, of the panel that was called, and of the others
pub list_with : (made : Made) (earlier : List Made) (ss : List Sent) → sends (made ∷ earlier) ≡ ss → SendsSound ss
    → SiteSound ss made.at (site_after ss (site_at made.at earlier) made.call made.result)
    → ((i : ℕ) → i ≢ made.at → SiteSound ss i (site_at i earlier)) → ListSound (made ∷ earlier)
list_with made earlier ss e S here others =
    record { sends_sound = subst⁻¹ SendsSound e S; sites = λ i. subst⁻¹ (λ ts. SiteSound ts i (site_at i (made ∷ earlier))) e (site i) }
  where
    site : (i : ℕ) → SiteSound ss i (site_at i (made ∷ earlier))
    site i =
        by_cases (ℕ_discrete i made.at)
        (λ q.
        subst⁻¹ (λ j. SiteSound ss j (site_at j (made ∷ earlier))) q
        (subst⁻¹ (SiteSound ss made.at) (site_at_here made earlier)
        (subst⁻¹ (λ ts. SiteSound ss made.at (site_after ts (site_at made.at earlier) made.call made.result)) e here)))
        (λ q. subst⁻¹ (SiteSound ss i) (site_at_other i made earlier q) (others i q))

-- the call on panel i, of that make, that gave this result
abbrev pub made : ℕ → Make → Call → Result → Made
made i make call result = record { at = i; make = make; call = call; result = result }

module _ (earlier : List Made) (L : ListSound earlier) (i : ℕ) (make : Make) (call : Call) where
  sends_quiet : (result : Result) → frames_sent call result ≡ [] → sends (made i make call result ∷ earlier) ≡ sends earlier
  unfolding sends
  sends_quiet result e = rw e refl

  -- a call that sends nothing
  pub quiet_step : (result : Result) → frames_sent call result ≡ []
      → SiteSound (sends earlier) i (site_after (sends earlier) (site_at i earlier) call result) → ListSound (made i make call result ∷ earlier)
  quiet_step result e here = list_with _ earlier (sends earlier) (sends_quiet result e) L.sends_sound here (λ j _. L.sites j)

  -- a refused call
  frames_sent-refused : (c : Call) (output buffer : List ℕ) (n : ℕ) → frames_sent c (refused (given_to i make earlier) output buffer (suc n)) ≡ []
  unfolding frames_sent refused
  frames_sent-refused (send payload lifetime output' buffer') output buffer n = rw (eqb-suc-zero n) refl
  frames_sent-refused (receive bytes output') output buffer n = refl
  frames_sent-refused (clock time output') output buffer n = refl
  frames_sent-refused (set_back reading) output buffer n = refl

  -- a call with that number of its refusal, where all is well if it is 0
  pub unless-step : (number : ℕ) (output buffer : List ℕ) (result : Result) → (number ≡ 0 → ListSound (made i make call result ∷ earlier))
      → ListSound (made i make call (unless number (refused (given_to i make earlier) output buffer) result) ∷ earlier)
  unfolding unless
  unless-step zero output buffer result h = h refl
  unless-step (suc n) output buffer result h =
      quiet_step _ (frames_sent-refused call output buffer n)
      (subst⁻¹ (SiteSound (sends earlier) i) (site_after-refused (sends earlier) (site_for make (site_at i earlier)) call output buffer n)
      (of_make_lem make (L.sites i)))

-- ---- a call that is not refused

-- its panel's site, with the log and the floor that the messages handed give
abbrev pub site_done : List Sent → Site → Settled → List Name → List Name → ℕ → Site
site_done ss s settled sent taken time =
    record {
      panel = settled.panel;
      log = log_with s.log settled.handed;
      sent = sent;
      taken = taken;
      time = time;
      floor = floor_after ss time s.floor s.log (map name_of settled.handed);
    }

pub site_after-done : (ss : List Sent) (s : Site) (call : Call) (settled : Settled) (output frame buffer : List ℕ) → EachReadable settled.handed
    → let result = done settled output frame buffer in
    site_after ss s call result
    ≡ site_done ss s settled (map name_in (frames_sent call result) ++ s.sent)
    (map name_in (frames_taken call result) ++ still_taken s.log s.floor s.taken call result) (time_after s.time call result)
unfolding done
site_after-done ss s call settled output frame buffer r =
    let result = done settled output frame buffer in
    λ j. record {
      panel = settled.panel;
      log = s.log ++ names_in-over settled.handed output r j;
      sent = map name_in (frames_sent call result) ++ s.sent;
      taken = map name_in (frames_taken call result) ++ still_taken s.log s.floor s.taken call result;
      time = time_after s.time call result;
      floor = floor_after ss (time_after s.time call result) s.floor s.log (names_in-over settled.handed output r j);
    }

-- a message that had its place has one after settling
pub placed_after : {ss : List Sent} {log : List Name} {p : Panel} {settled : Settled} → Keeps ss log p settled
    → (n : Name) → Placed log p.waiting n → Placed (log_with log settled.handed) settled.panel.waiting n
placed_after K n (inl i) = inl (Memᴰ.append_left _ i)
placed_after K n (inr (w, i, e)) = ⊎_elim (λ a. inl (Memᴰ.cast (sym e) a)) (λ a. inr (w, a, e)) (K.rest w i)

-- and the floor is the one counted
pub floor_after_lem : {ss : List Sent} {log : List Name} {p : Panel} {settled : Settled} {time floor : ℕ} → Keeps ss log p settled → p.time ≡ time
    → p.floor ≡ floor → settled.panel.floor ≡ floor_after ss time floor log (map name_of settled.handed)
floor_after_lem {ss} {log} {settled = settled} K time floor = K.floor ∙ (λ j. floor_after ss (time j) (floor j) log (map name_of settled.handed))
