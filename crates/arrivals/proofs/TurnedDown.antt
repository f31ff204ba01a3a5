-- A message that can be taken, and is turned down all the same, is in the log or waits already, unless 23 was answered. Assumes nothing.
use Prim.Native.Nat.{ℕ, ◌+◌, ◌≤◌, ◌<◌}
use native.Mathlib.Omega.{arith}
use mathlib.Core.Path.{◌≡◌, refl, sym, ap, ◌∙◌}
use mathlib.Core.Logic.{inl, inr, ⊎_elim, ◌≢◌}
use mathlib.Core.Bool.{Bool, true, false, cond, not, ◌&&◌, ◌||◌, false≢true}
use mathlib.Core.List.Memᴰ
use mathlib.Core.List.Memᴰ.{head as first}
use mathlib.Core.List.Memᴰ.{tail as later}
use mathlib.Core.List.{List, [], ◌∷◌}
use lib.ListN.{length, get_or}
use lib.Dec.{leb, eqb}
use borrow.Author.Tests.{eqb-true, leb-true, le-ltb}
use Rattle.frame.specs.Message.{Message}
use Rattle.frame.specs.Refusal.{first_of}
use Rattle.frame.specs.Reading.{checks, width_in, refusal_of, message_from}
use Rattle.frame.proofs.Conjunction.{and_both}
use Rattle.frame.proofs.FirstOf.{each_number, first_of_right}
use Rattle.rules.specs.Sizes.{output_length}
use Rattle.rules.specs.Panel.{name_of, Make, Panel, lapsed, ready}
use Rattle.rules.specs.Refusals.{broken, is_waiting, farthest_ahead, too_far_ahead, message_checks, receive_checks}
use Rattle.rules.specs.Results.{receive, defined}
use Rattle.rules.specs.Lists.{◌is_in◌, Made, record_at, given_to, log_at, sends}
use Rattle.rules.proofs.Booleans.{or_either}
use Rattle.rules.proofs.Ready.{limit, limit-of_make, lapsed-true, dead-limit}
use Rattle.rules.proofs.Checks.{false-broken}
use Rattle.rules.proofs.Cause.{name_path, Known, known_deadline, source_order}
use Rattle.rules.proofs.Sites.{Placed}
use Rattle.rules.proofs.Steps.{ListSound}
use Rattle.rules.proofs.Reached.{reached_valid}
use Rattle.rules.proofs.Results.{defined-number}
use Rattle.arrivals.proofs.SentFrames.{SentIn}
use Rattle.arrivals.proofs.Receiving.{Takeable}

-- ---- the checks

is_waiting-true : (m : Message) (ws : List Message) → is_waiting m ws ≡ true → (w : Message) × (w is_in ws) × (name_of w ≡ name_of m)
unfolding is_waiting
is_waiting-true m [] e = absurd (false≢true e)
is_waiting-true m (x ∷ ws) e =
    ⊎_elim (λ q.
    let (source, deadline) = and_both (eqb m.source x.source) (eqb m.deadline x.deadline) q in
    (x, first refl, name_path (sym (eqb-true m.source x.source source)) (sym (eqb-true m.deadline x.deadline deadline))))
    (λ q. let (w, i, same) = is_waiting-true m ws q in (w, later i, same))
    (or_either (eqb m.source x.source && eqb m.deadline x.deadline) (is_waiting m ws) e)

alive_not_lapsed : (p : Panel) (deadline : ℕ) → limit p ≤ deadline → lapsed p deadline ≡ false
alive_not_lapsed p deadline le = go (lapsed p deadline) refl
  where
    go : (b : Bool) → lapsed p deadline ≡ b → b ≡ false
    go true e = absurd (omega (arith, le, lapsed-true p deadline e))
    go false e = refl

-- of a message that was read, without 20, 21, 32 and 22, it is 23 or 0
message_checks_rest : (p : Panel) (m : Message) → eqb m.source p.own ≡ false → Takeable p m
    → (leb m.deadline (get_or p.marks m.source 0) || is_waiting m p.waiting) ≡ false
    → first_of (message_checks p m) ≡ cond (leb 32 (length p.waiting) && not (ready p m)) 23 0
unfolding message_checks first_of too_far_ahead
message_checks_rest p m own (_, alive, near) new =
    rw (own, alive_not_lapsed p m.deadline alive, le-ltb (p.time + farthest_ahead) m.deadline near, new) refl

receive-number : (p : Panel) (bytes output : List ℕ) → broken p ≡ false → output_length ≤ length output → refusal_of bytes ≡ 0
    → first_of (receive_checks p bytes output) ≡ first_of (message_checks p (message_from bytes))
unfolding receive_checks first_of each_number checks
receive-number p bytes output whole room read =
    rw (whole, le-ltb (length output) output_length room) (first_of_right (checks (width_in bytes) bytes) (message_checks p (message_from bytes)) refl read)

-- ---- a receive of a frame that was sent

module _ (earlier : List Made) (i : ℕ) (make : Make) (bytes output : List ℕ) (F : SentIn earlier bytes) (room : output_length ≤ length output) where
  abbrev L : ListSound earlier
  L = F.sound

  abbrev p : Panel
  p = given_to i make earlier

  abbrev m : Message
  m = message_from bytes

  known : Known (sends earlier) (name_of m)
  known = let (s, k, e) = F.sent in (s, k, ap name_of e)

  whole : p.own < 64 → broken p ≡ false
  unfolding broken
  whole own = false-broken (record_at i earlier) (reached_valid earlier L i (omega (arith, own, (L.sites i).own)))

  -- the number is one of the message's
  pub number_is : p.own < 64 → (defined p (receive bytes output)).number ≡ first_of (message_checks p m)
  number_is own = defined-number p (receive bytes output) ∙ receive-number p bytes output (whole own) room F.read

  -- what its source's mark has reached is in the log
  logged : Takeable p m → m.deadline ≤ get_or p.marks m.source 0 → name_of m is_in log_at i earlier
  logged (_, alive, near) le =
      let r = record_at i earlier in
      let G = (L.sites i).sound in
      let k = G.summary.mark_logged m.source (omega (arith, known_deadline L.sends_sound known)) in
      ⊎_elim (λ q. Memᴰ.cast q k)
      (λ b.
      ⊎_elim (λ a. a) (λ d. absurd (omega (arith, d, dead-limit r, limit-of_make r make, alive))) (G.log_sound.whole _ (name_of m) k b))
      (source_order L.sends_sound known (G.log_sound.known _ k) refl le)

  pub turned_down : (defined p (receive bytes output)).number ≢ 0 → (defined p (receive bytes output)).number ≢ 23 → Takeable p m
      → Placed (log_at i earlier) p.waiting (name_of m)
  turned_down refuses not_23 takeable =
      go (eqb m.source p.own) (leb m.deadline (get_or p.marks m.source 0) || is_waiting m p.waiting) refl refl
    where
      neither : (full : Bool) → (defined p (receive bytes output)).number ≡ cond full 23 0 → ⊥
      neither true e = not_23 e
      neither false e = refuses e

      go : (own had : Bool) → eqb m.source p.own ≡ own
          → (leb m.deadline (get_or p.marks m.source 0) || is_waiting m p.waiting) ≡ had
          → Placed (log_at i earlier) p.waiting (name_of m)
      go true had a b =
          let (s, k, f) = F.sent in
          inl (Memᴰ.cast (sym (ap name_of f))
          ((L.sites i).mine s k (ap (λ (x : Message). x.source) f ∙ eqb-true m.source p.own a ∙ (L.sites i).own)))
      go false true a b =
          ⊎_elim (λ le. inl (logged takeable (leb-true m.deadline (get_or p.marks m.source 0) le)))
          (λ w. inr (is_waiting-true m p.waiting w))
          (or_either (leb m.deadline (get_or p.marks m.source 0)) (is_waiting m p.waiting) b)
      go false false a b = absurd (neither (leb 32 (length p.waiting) && not (ready p m)) (number_is takeable.0 ∙ message_checks_rest p m a takeable b))
