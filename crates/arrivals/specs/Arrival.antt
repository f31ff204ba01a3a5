-- Document 02, W-206, "Arrival order makes no difference" (`arrival_order` in proofs/Arrival.antt, for every list of demand 3).
--
-- Operators at two ends compare logs and ask if something is missing. A panel that hears some frames in one order ends as it does in any other: with
-- equal time, high, marks, barrier and floor, the same log records and the same waiting messages. Only the order in which these stand may differ; that
-- of the log is an order of cause, whichever it is (demand 3). A frame may come once in the one and ten times in the
-- other, and as version 1 in the one and as version 2 in the other.
--
-- What is asked for, and what may happen without it (ArrivalCases.antt has a case for each: two orders that end otherwise, computed by the definitions):
--   the record is one that a list reaches    case_not_reached: a message waits that is ready, and goes with whatever is taken first
--   each frame was sent in that list         case_nobody_sent: a frame that nobody sent passes one that was sent
--   no clock call comes between              case_clock_between: what comes behind it has lapsed (behind a set-back call, what came ahead of it had)
--   each output is long enough               case_short_output: a receive is refused with 10
--   23 is never answered                     case23: what is refused with it is taken in the other order
--   the panel is of one make meanwhile       case_make_changed: an entry leaves the barrier only at a panel of the new make
--
-- No other call comes between either: a send names what has come by then.
--
-- "In W-206 the floor may differ between two orders" (W-207): it can't. It is the largest deadline of a message that the log went without
-- (`floor_meaning`), and the log has the same messages.
use Rattle.std.specs.Prelude.{ℕ, zero, suc, ◌≤◌, ◌<◌, ◌≡◌, ◌↔◌, ◌≢◌, Bool, true, cond, ◌||◌, length, take, drop, eqb}
use mathlib.Core.List.{List, [], ◌∷◌, ◌++◌, Perm, Nodup}
use Rattle.frame.specs.Reading.{reading_of}
use Rattle.rules.specs.Sizes.{log_record_length, output_length}
use Rattle.rules.specs.Panel.{Make}
use Rattle.rules.specs.Results.{receive}
use Rattle.rules.specs.Lists.{◌is_in◌, Made, on, record_at, Sent, sends, CarriesSent, AllPromised}

-- ---- what is received

-- A receive of this frame at that panel, which is of that make.
pub record Heard (sent : List Sent) (panel : ℕ) (make : Make) (frame : List ℕ) (made : Made) : Type 0 where
  pub there : made.at ≡ panel
  pub of_make : made.make ≡ make
  pub output : List ℕ
  pub receives : made.call ≡ receive frame output
  -- The frame was sent, or is that of version 1 of a message that was,
  pub was_sent : CarriesSent sent frame
  -- the output is long enough,
  pub long_enough : output_length ≤ length output
  -- and 23 was not answered.
  pub not_23 : made.result.number ≢ 23

-- Nothing but such receives, of these frames, the latest first.
abbrev pub AllHeard : List Sent → ℕ → Make → List (List ℕ) → List Made → Type 0
AllHeard sent panel make [] [] = Unit {0}
AllHeard sent panel make [] (made ∷ earlier) = ⊥
AllHeard sent panel make (frame ∷ frames) [] = ⊥
AllHeard sent panel make (frame ∷ frames) (made ∷ earlier) = Heard sent panel make frame made × AllHeard sent panel make frames earlier

-- of each frame of the one, the other has the same or its message's of the other version
abbrev pub EachIn : List (List ℕ) → List (List ℕ) → Type 0
EachIn one two = (frame : List ℕ) → frame is_in one → (same : List ℕ) × (same is_in two) × (reading_of same ≡ reading_of frame)

-- the same frames, each however often, in whatever order, and in whichever version
abbrev pub SameFrames : List (List ℕ) → List (List ℕ) → Type 0
SameFrames one two = EachIn one two × EachIn two one

-- ---- what it ends with

-- so many log records at the start of an output
unfoldable pub records_in : ℕ → List ℕ → List (List ℕ)
records_in zero output = []
records_in (suc count) output = take log_record_length output ∷ records_in count (drop log_record_length output)

-- a panel's log as bytes: the log records that the calls there wrote (`log_names`: their sources and deadlines are `log_at`)
unfoldable pub records_at : ℕ → List Made → List (List ℕ)
records_at panel [] = []
records_at panel (made ∷ earlier) = records_at panel earlier ++ cond (on panel made) (records_in made.result.count made.result.output) []

-- The same set: what is in the one is in the other. Each is in it once, so that the one is the other in another order. (`List.Nodup` and `Perm` are
-- the library's: none twice, and a permutation.)
pub record SameSet {A : Type 0} (one two : List A) : Type 0 where
  pub same : (x : A) → (x is_in one) ↔ (x is_in two)
  pub once : Nodup one
  pub reordered : Perm one two

-- After the one and after the other list a panel has
pub record SameEnd (panel : ℕ) (one two : List Made) : Type 0 where
  -- equal time, high, marks and barrier,
  pub time : (record_at panel one).time ≡ (record_at panel two).time
  pub high : (record_at panel one).high ≡ (record_at panel two).high
  pub marks : (record_at panel one).marks ≡ (record_at panel two).marks
  pub barrier : (record_at panel one).barrier ≡ (record_at panel two).barrier
  -- equal floor too, which the request leaves open,
  pub floor : (record_at panel one).floor ≡ (record_at panel two).floor
  -- the same set of log records and the same set waiting.
  pub log : SameSet (records_at panel one) (records_at panel two)
  pub waiting : SameSet (record_at panel one).waiting (record_at panel two).waiting

-- ---- the claim

-- From the record that this list leaves at a panel, two orders of receiving the same frames sent in it end alike.
abbrev pub ArrivalOrder : List Made → Type 0
ArrivalOrder list =
    (panel : ℕ) (make : Make) (frames_one frames_two : List (List ℕ)) → SameFrames frames_one frames_two
    → (one two : List Made) → AllHeard (sends list) panel make frames_one one → AllHeard (sends list) panel make frames_two two
    → AllPromised (one ++ list) → AllPromised (two ++ list) → SameEnd panel (one ++ list) (two ++ list)

-- On the way a receive answers 0, or refuses with one of these, which each order may do with other copies.
abbrev pub on_the_way : ℕ → Bool
on_the_way number = eqb number 0 || eqb number 20 || eqb number 21 || eqb number 22 || eqb number 32

abbrev pub AnswersOnTheWay : List Made → Type 0
AnswersOnTheWay list =
    (panel : ℕ) → panel < 64 → (make : Make) (frames : List (List ℕ)) (heard : List Made) → AllHeard (sends list) panel make frames heard
    → AllPromised (heard ++ list) → (made : Made) → made is_in heard → on_the_way made.result.number ≡ true
