-- Document 01, "The words of demand 3". Each word is a function of a list of calls. (Floor, lapsed and taken, as W-207 of document 02 has them, stand in `Lapsing`.)
use Rattle.std.specs.Prelude.{ℕ, zero, suc, min, ◌≡◌, ◌⊎◌, ◌≢◌, Bool, cond, take, drop, eqb}
use mathlib.Core.List.{List, [], ◌∷◌, ◌++◌, map, Memᴰ}
use Rattle.numbers.specs.Numbers.{Bytes, number_at}
use Rattle.frame.specs.Reading.{message_from, reading_of}
use Rattle.rules.specs.Sizes.{width, log_record_length}
use Rattle.rules.specs.Panel.{Name, name_of, Make, Panel, fresh, of_make}
use Rattle.rules.specs.Results.{Call, send, receive, clock, set_back, Result, Promised}

-- x is an element of the list
infix 4 ◌is_in◌
abbrev pub ◌is_in◌ : {A : Type 0} → A → List A → Type 0
x is_in xs = Memᴰ x xs

-- One call of a list: the number of the panel that it names, the make of that panel, the call, and what it gave. In a list the latest call stands
-- first, and behind it the earlier ones. No two panels have the same number, so that the number names the panel. Old and new panels share a
-- farm, in any mixture, and a panel may be brought from one make to the other between two calls.
pub record Made : Type 0 where
  pub at : ℕ
  pub make : Make
  pub call : Call
  pub result : Result

-- was the call one on that panel?
abbrev pub on : ℕ → Made → Bool
on panel made = eqb panel made.at

-- the first where the call was not refused, else the second
abbrev pub if_done : {A : Type 0} → Result → A → A → A
if_done result done otherwise = cond (eqb result.number 0) done otherwise

-- ---- the record that a call works on

-- Each call works on the record that the last call on that panel gave back, at first the fresh one.
unfoldable pub record_at : ℕ → List Made → Panel
record_at panel [] = fresh panel
record_at panel (made ∷ earlier) = cond (on panel made) made.result.panel (record_at panel earlier)

-- the record that the next call on that panel works on, as a panel of that make does
abbrev pub given_to : ℕ → Make → List Made → Panel
given_to panel make earlier = of_make make (record_at panel earlier)

-- ---- frames sent and taken

-- the frame that a call wrote: that of a send that was not refused
unfoldable pub frames_sent : Call → Result → List (List ℕ)
frames_sent (send payload lifetime output buffer) result = if_done result (take result.frame_length result.buffer ∷ []) []
frames_sent (receive bytes output) result = []
frames_sent (clock time output) result = []
frames_sent (set_back reading) result = []

-- the frame that a call took: that of a receive that was not refused
unfoldable pub frames_taken : Call → Result → List (List ℕ)
frames_taken (send payload lifetime output buffer) result = []
frames_taken (receive bytes output) result = if_done result (bytes ∷ []) []
frames_taken (clock time output) result = []
frames_taken (set_back reading) result = []

-- the message of a frame: its source and deadline
abbrev pub name_in : List ℕ → Name
name_in frame = name_of (message_from frame)

-- Sent at a panel: a send there was not refused; its message is the source and deadline of the frame that it wrote.
unfoldable pub sent_at : ℕ → List Made → List Name
sent_at panel [] = []
sent_at panel (made ∷ earlier) = cond (on panel made) (map name_in (frames_sent made.call made.result)) [] ++ sent_at panel earlier

-- ---- a panel's log

-- the messages of so many log records at the start of an output
unfoldable pub names_in : ℕ → List ℕ → List Name
names_in zero output = []
names_in (suc count) output =
    record { source = number_at output 0 1; deadline = number_at output 1 width } ∷ names_in count (drop log_record_length output)

-- A panel's log: the log records that the calls there wrote, call after call, as many from each output as the answer counts.
unfoldable pub log_at : ℕ → List Made → List Name
log_at panel [] = []
log_at panel (made ∷ earlier) = log_at panel earlier ++ cond (on panel made) (names_in made.result.count made.result.output) []

-- ---- a panel's time

-- the time after a call, where it was `before`
unfoldable pub time_after : ℕ → Call → Result → ℕ
time_after before (send payload lifetime output buffer) result = before
time_after before (receive bytes output) result = before
time_after before (clock time output) result = if_done result time before
time_after before (set_back reading) result = if_done result (min before reading) before

-- A panel's time: the last reading that a clock call there did not refuse, before any such call 0; lowered by the set-back calls there
-- (document 02, W-207).
unfoldable pub time_at : ℕ → List Made → ℕ
time_at panel [] = 0
time_at panel (made ∷ earlier) = cond (on panel made) (time_after (time_at panel earlier) made.call made.result) (time_at panel earlier)

-- ---- before in cause

-- a frame that was sent, and the sender's log when it was sent: that log just before the call that sent it
pub record Sent : Type 0 where
  pub frame : List ℕ
  pub past : List Name

-- all frames that were sent
unfoldable pub sends : List Made → List Sent
sends [] = []
sends (made ∷ earlier) =
    map (λ frame. record { frame = frame; past = log_at made.at earlier }) (frames_sent made.call made.result) ++ sends earlier

-- x is before y in cause: in the sender's log when y was sent, or linked by a chain of such steps.
pub data Before (sent : List Sent) : Name → Name → Type 0 where
  direct : {x y : Name} (s : Sent) → s is_in sent → name_in s.frame ≡ y → x is_in s.past → Before sent x y
  chain : {x y z : Name} → Before sent x y → Before sent y z → Before sent x z

-- ---- the lists that demand 3 speaks of

-- The bytes carry the message of a frame that was sent: they are that frame, or the frame of version 1 that reads as the same message. (Document 02,
-- W-208: "Version 1 is still read, with the same values". So a farm is covered whose panels are changed over one by one: those that still write
-- version 1 send the same messages.)
abbrev pub CarriesSent : List Sent → List ℕ → Type 0
CarriesSent sent bytes = (s : Sent) × (s is_in sent) × (reading_of bytes ≡ reading_of s.frame)

-- A frame received carries the message of a frame that an earlier call of the list sent, at whatever panel; or its call is refused, with
-- whatever number. A payload to send is bytes.
unfoldable pub Given : List Sent → Call → Result → Type 0
Given sent (send payload lifetime output buffer) result = Bytes payload
Given sent (receive bytes output) result = CarriesSent sent bytes ⊎ (result.number ≢ 0)
Given sent (clock time output) result = Unit {0}
Given sent (set_back reading) result = Unit {0}

-- Each call of a list was given what demand 3 allows; the list may be empty.
abbrev pub Lawful : List Made → Type 0
Lawful [] = Unit {0}
Lawful (made ∷ earlier) = Given (sends earlier) made.call made.result × Lawful earlier

-- each call gave what it promises
abbrev pub AllPromised : List Made → Type 0
AllPromised [] = Unit {0}
AllPromised (made ∷ earlier) = Promised (given_to made.at made.make earlier) made.call made.result × AllPromised earlier

-- the list that comes of these calls, the latest first, each on a panel of a number and of a make, with the result that a module gives
abbrev pub ran : (Panel → Call → Result) → List (ℕ × Make × Call) → List Made
ran gives [] = []
ran gives ((panel, make, call) ∷ earlier) =
    let made = ran gives earlier in
    record { at = panel; make = make; call = call; result = gives (given_to panel make made) call } ∷ made
