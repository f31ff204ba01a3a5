-- What holds after every list of calls, and what it says of the log of a panel. Assumes nothing.
use Prim.Native.Nat.{ℕ, ◌≤◌, ◌<◌}
use native.Mathlib.Decide.{dec_lt}
use native.Mathlib.Omega.{arith}
use mathlib.Core.Path.{refl, ap, subst, subst⁻¹}
use mathlib.Core.Logic.{◌⊎◌, inl, inr, ⊎_elim, by_cases}
use mathlib.Core.List.{List, [], ◌∷◌}
use lib.ListN.{get_or}
use Rattle.frame.specs.Message.{Message}
use Rattle.frame.proofs.Readable.{Readable}
use Rattle.rules.specs.Sizes.{width}
use Rattle.rules.specs.Panel.{Name, name_of, Make, fresh}
use Rattle.rules.specs.Results.{Call, send, receive, clock, set_back, defined}
use Rattle.rules.specs.Lists.{◌is_in◌, Made, record_at, given_to, sent_at, log_at, time_at, sends, Before, direct, Given, Lawful, AllPromised}
use Rattle.rules.specs.Lapsing.{floor_at, LapsedAt, taken_at}
use Rattle.rules.proofs.Ready.{limit, below_limit, dead_floor, ready-false}
use Rattle.rules.proofs.Raise.{get_or-none64, length-none64}
use Rattle.rules.proofs.Checks.{Valid}
use Rattle.rules.proofs.Cause.{named, nothing_sent}
use Rattle.rules.proofs.Sound.{barrier_logged, WasSent}
use Rattle.rules.proofs.Steps.{ListSound, made}
use Rattle.rules.proofs.SendStep.{send-step}
use Rattle.rules.proofs.ReceiveStep.{receive-step}
use Rattle.rules.proofs.ClockStep.{clock-step}
use Rattle.rules.proofs.SetBackStep.{set_back-step}

-- ---- after every list

empty_sound : ListSound []
unfolding record_at log_at sent_at taken_at time_at floor_at sends fresh
empty_sound =
    record {
      sends_sound = nothing_sent;
      sites = λ i.
          record {
            own = refl;
            time = refl;
            floor = refl;
            sound =
                record {
                  log_sound = record { known = λ x k. elim k [ ]; whole = λ x y k. elim k [ ]; once = λ x a. a; order = λ x y a. absurd a };
                  summary =
                      record {
                        marks_64 = length-none64;
                        barrier_64 = length-none64;
                        below_mark = λ x k. elim k [ ];
                        mark_logged = λ k above. absurd (omega (arith, get_or-none64 k));
                        below_high = λ x k. elim k [ ];
                        barrier_mark = λ k above. absurd (omega (arith, get_or-none64 k));
                        barrier_covers = λ x k. elim k [ ];
                      };
                  waits = record { sent = λ w k. elim k [ ]; alive = λ w k. elim k [ ]; unlogged = λ w k. elim k [ ]; distinct = tt };
                  missing = λ above. absurd (omega (arith, above));
                };
            few = omega arith;
            settled = λ w k. elim k [ ];
            sent = λ n k. elim k [ ];
            taken = λ n k. elim k [ ];
            mine = λ t k. elim k [ ];
          };
    }

step : (earlier : List Made) → ListSound earlier → (i : ℕ) (make : Make) (call : Call)
    → let result = defined (given_to i make earlier) call in
    Given (sends earlier) call result → ListSound (made i make call result ∷ earlier)
unfolding Given
step earlier L i make (send payload lifetime output buffer) given = send-step earlier L i make payload lifetime output buffer given
step earlier L i make (receive bytes output) given = receive-step earlier L i make bytes output given
step earlier L i make (clock time output) given = clock-step earlier L i make time output
step earlier L i make (set_back reading) given = set_back-step earlier L i make reading

pub list_sound : (list : List Made) → Lawful list → AllPromised list → ListSound list
list_sound [] lawful promised = empty_sound
list_sound (last ∷ earlier) (given, lawful) (promise, promised) =
    subst⁻¹ (λ result. Given (sends earlier) last.call result → ListSound (made last.at last.make last.call result ∷ earlier)) promise
    (step earlier (list_sound earlier lawful promised) last.at last.make last.call) given

-- ---- the log of a panel

module _ (list : List Made) (L : ListSound list) (i : ℕ) where
  -- what is before a message of the log is in the log or has lapsed
  pub logged_whole : (n x : Name) → n is_in log_at i list → Before (sends list) x n → (x is_in log_at i list) ⊎ LapsedAt i list x
  logged_whole n x k b =
      let G = L.sites i in
      ⊎_elim (λ a. inl a) (λ d. inr (inr (omega (arith, dead_floor (record_at i list) x.deadline d, G.floor)))) (G.sound.log_sound.whole n x k b)

  -- what has lapsed there is below the limit of the record
  lapsed_below : (x : Name) → LapsedAt i list x → x.deadline < limit (record_at i list)
  lapsed_below x (inl lt) = below_limit (record_at i list) x.deadline (inl (omega (arith, (L.sites i).time)))
  lapsed_below x (inr le) = below_limit (record_at i list) x.deadline (inr (omega (arith, (L.sites i).floor)))

  -- a message that waits is not ready: some message before it is neither in the log nor lapsed
  pub waits_for : (w : Message) → w is_in (record_at i list).waiting
      → (x : Name) × Before (sends list) x (name_of w) × ¬ (x is_in log_at i list) × (limit (record_at i list) ≤ x.deadline)
  waits_for w k =
      let (s, _, above, live) = ready-false (record_at i list) w ((L.sites i).settled w k) in
      go s above live ((L.sites i).sound.waits.sent w k)
    where
      go : (s : ℕ) → get_or (record_at i list).marks s 0 < get_or w.entries s 0 → limit (record_at i list) ≤ get_or w.entries s 0
          → WasSent (sends list) w
          → (x : Name) × Before (sends list) x (name_of w) × ¬ (x is_in log_at i list) × (limit (record_at i list) ≤ x.deadline)
      go s above live (t, j, e) = (
        named s (get_or w.entries s 0),
        direct t j (ap name_of e) (rw e at (L.sends_sound.entry t j s (rw e (omega arith)))),
        λ a. omega (arith, (L.sites i).sound.summary.below_mark _ a, above),
        live,
      )

  -- a message sent or taken there, with all that is before it in the log or lapsed, is in the log
  pub whole_logged : (n : Name) → (n is_in sent_at i list) ⊎ (n is_in taken_at i list)
      → ((x : Name) → Before (sends list) x n → (x is_in log_at i list) ⊎ LapsedAt i list x) → n is_in log_at i list
  whole_logged n (inl k) all = (L.sites i).sent n k
  whole_logged n (inr k) all =
      ⊎_elim (λ a. a)
      (λ a.
      let (x, b, out, live) = waits_for a.0 a.1 in
      absurd (⊎_elim out (λ l. omega (arith, lapsed_below x l, live)) (all x (subst (Before (sends list) x) a.2 b)))) ((L.sites i).taken n k)

-- ---- its record

-- a list of deadlines of messages in the log is nowhere above high
logged_high : (list : List Made) → ListSound list → (i : ℕ) (ns : List ℕ) → ((k : ℕ) → 0 < get_or ns k 0 → named k (get_or ns k 0) is_in log_at i list)
    → (k : ℕ) → get_or ns k 0 ≤ (record_at i list).high
logged_high list L i ns logged k =
    by_cases (dec_lt 0 (get_or ns k 0)) (λ above. (L.sites i).sound.summary.below_high _ (logged k above)) (λ zero. omega arith)

pub reached_valid : (list : List Made) → ListSound list → (i : ℕ) → i < 64 → Valid (record_at i list)
reached_valid list L i lt =
    let G = L.sites i in
    let K = G.sound.summary in
    record {
      own = omega (arith, G.own);
      marks = logged_high list L i (record_at i list).marks K.mark_logged;
      barrier = logged_high list L i (record_at i list).barrier (barrier_logged K);
      count = G.few;
      waiting = λ w k. let (s, j, e) = G.sound.waits.sent w k in subst (Readable width) e (L.sends_sound.readable s j);
    }
