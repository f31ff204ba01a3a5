-- What demand 3 says of the logs is no empty word: three of document 01's sham modules break it, each on a list of a few calls. Assumes nothing.
use Prim.Native.Nat.{ℕ}
use native.Mathlib.Omega.{arith}
use mathlib.Core.Path.{◌≡◌, refl}
use mathlib.Core.Logic.{inl, inr, ⊎_elim}
use mathlib.Core.List.Memᴰ.{head as first}
use mathlib.Core.List.Memᴰ.{tail as later}
use mathlib.Core.List.{List, [], ◌∷◌, ◌++◌}
use Rattle.numbers.specs.Numbers.{Bytes}
use Rattle.frame.specs.Reading.{message_from}
use Rattle.frame.specs.Readable.{each_below}
use Rattle.frame.proofs.EachNumber.{each_below-lt}
use Rattle.rules.specs.Panel.{Name, Make, new_make, Panel, fresh}
use Rattle.rules.specs.Settling.{with_waiting}
use Rattle.rules.specs.Calls.{hand_and_settle}
use Rattle.rules.specs.Results.{Call, send, receive, clock, set_back, Result, done, defined}
use Rattle.rules.specs.Lists.{◌is_in◌, Made, record_at, frames_sent, frames_taken, sent_at, names_in, log_at, time_after, time_at, sends, Before, direct, Given, Lawful, ran}
use Rattle.rules.specs.Lapsing.{entries_sent, mark_in, floor_handed, floor_after, floor_at, LapsedAt, is_one_of, not_dropped, still_taken, taken_at}
use Rattle.rules.specs.Demand3.{ExactlyWhen, NoneTwice, NoneAhead}
use Rattle.rules.specs.Cases.{output, buffer}
use Rattle.rules.specs.BenchCases.{deadline1, frame1, deadline2, frame2}
use Rattle.rules.proofs.BenchCases.{calls_opened}
use Rattle.rules.proofs.Cause.{LastStep, last}

-- ---- the modules

-- one that holds every message back
pub holds_back : Panel → Call → Result
holds_back p (send payload lifetime output buffer) = defined p (send payload lifetime output buffer)
holds_back p (receive bytes output) =
    done (record { panel = with_waiting p (p.waiting ++ (message_from bytes ∷ [])); handed = [] }) output [] []
holds_back p (clock time output) = defined p (clock time output)
holds_back p (set_back reading) = defined p (set_back reading)

-- one that hands each on arrival
pub hands_on_arrival : Panel → Call → Result
hands_on_arrival p (send payload lifetime output buffer) = defined p (send payload lifetime output buffer)
hands_on_arrival p (receive bytes output) = done (hand_and_settle p (message_from bytes)) output [] []
hands_on_arrival p (clock time output) = defined p (clock time output)
hands_on_arrival p (set_back reading) = defined p (set_back reading)

-- one that returns the record as it came
pub record_as_it_came : Panel → Call → Result
record_as_it_came p call =
    let r = defined p call in
    record { number = r.number; panel = p; count = r.count; output = r.output; frame_length = r.frame_length; buffer = r.buffer }

-- ---- the lists: panel 3 sends the two messages of cases 1 and 2, and panel 0 hears them

unfoldable pub hold : Name
hold = record { source = 3; deadline = deadline1 }

unfoldable pub lifted : Name
lifted = record { source = 3; deadline = deadline2 }

hold_sent : List (ℕ × Make × Call)
hold_sent = (3, new_make, send (0x4f ∷ 0x4b ∷ []) deadline1 output buffer) ∷ []

-- the first is heard
pub once : (Panel → Call → Result) → List Made
once gives = ran gives ((0, new_make, receive frame1 output) ∷ hold_sent)

-- and heard again
pub twice : (Panel → Call → Result) → List Made
twice gives = ran gives ((0, new_make, receive frame1 output) ∷ (0, new_make, receive frame1 output) ∷ hold_sent)

-- the second is heard, and then the first
pub crossed : (Panel → Call → Result) → List Made
crossed gives = ran gives ((0, new_make, receive frame1 output) ∷ (0, new_make, receive frame2 output) ∷ (3, new_make, send [] 0 output buffer) ∷ hold_sent)

-- whoever unfolds these unfolds all definitions of lists, and then these lists
unfoldable pub lists_opened : Unit {0}
unfolding calls_opened fresh record_at frames_sent frames_taken sent_at names_in log_at time_after time_at sends entries_sent mark_in floor_handed floor_after floor_at is_one_of not_dropped still_taken taken_at Given
lists_opened = tt

shams_opened : Unit {0}
unfolding lists_opened frame1 frame2 holds_back hands_on_arrival record_as_it_came hold lifted hold_sent once twice crossed
shams_opened = tt

-- ---- they are lists that demand 3 speaks of

pub payload_bytes : Bytes (0x4f ∷ 0x4b ∷ [])
unfolding each_below
payload_bytes = each_below-lt 256 (0x4f ∷ 0x4b ∷ []) (omega arith) refl

pub empty_bytes : Bytes []
empty_bytes i = omega arith

pub once_lawful : Lawful (once holds_back)
unfolding shams_opened
once_lawful = (inl (_, first refl, refl), (payload_bytes, tt))

pub twice_lawful : Lawful (twice record_as_it_came)
unfolding shams_opened
twice_lawful = (inl (_, first refl, refl), (inl (_, first refl, refl), (payload_bytes, tt)))

pub crossed_lawful : Lawful (crossed hands_on_arrival)
unfolding shams_opened
crossed_lawful = (inl (_, later (first refl), refl), (inl (_, first refl, refl), (empty_bytes, (payload_bytes, tt))))

-- ---- and their logs are not as demand 3 says

-- Held back: taken, not lapsed, and nothing is before it in cause, but it does not stand in the log.
holding_back : (hold is_in taken_at 0 (once holds_back)) × ¬ LapsedAt 0 (once holds_back) hold
    × ((x : Name) → ¬ Before (sends (once holds_back)) x hold) × ¬ (hold is_in log_at 0 (once holds_back))
unfolding shams_opened
holding_back = (first refl, ⊎_elim (λ lt. omega (arith, lt)) (λ le. omega (arith, le)), λ x b. alone x (last b), λ i. elim i [ ])
  where
    alone : (x : Name) → LastStep (sends (once holds_back)) x hold → ⊥
    alone x (y, u, s, first e, q, h) = elim (rw e at h) [ ]
    alone x (y, u, s, later i, q, h) = elim i [ ]

pub holding_back_breaks : ¬ ExactlyWhen (once holds_back)
holding_back_breaks exactly_when =
    let (taken, live, alone, missing) = holding_back in
    missing ((exactly_when 0 hold (inr taken) live).1 (λ x b. absurd (alone x b)))

-- Handed on arrival: one stands ahead of another that is before it in cause.
pub arrival_breaks : ¬ NoneAhead (crossed hands_on_arrival)
unfolding shams_opened
arrival_breaks none_ahead = none_ahead 0 lifted hold (inl (refl, first refl)) (direct _ (first refl) refl (first refl))

-- The record as it came: a message stands in the log twice.
pub record_as_it_came_breaks : ¬ NoneTwice (twice record_as_it_came)
unfolding shams_opened
record_as_it_came_breaks none_twice = none_twice 0 hold (inl (refl, first refl))

-- With the defined results the log is in the order of cause.
pub crossed_in_order : log_at 0 (crossed defined) ≡ hold ∷ lifted ∷ []
unfolding shams_opened
crossed_in_order = refl
