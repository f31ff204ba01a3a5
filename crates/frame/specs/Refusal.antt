-- Refusals, and a table of checks, each with the number that is answered where it applies.
use Rattle.std.specs.Prelude.{ℕ, Bool, cond, List, [], ◌∷◌, Result, Ok, Err}
use Rattle.frame.specs.declared.refusal.Refusal.{Refusal}
use Rattle.frame.specs.declared.refusal.Refusal.TheVariants as refusals

-- the number of a refusal
abbrev pub number_of : Refusal → ℕ
number_of refusals.FrameShort = 1
number_of refusals.FrameMark = 2
number_of refusals.FrameVersion = 3
number_of refusals.FrameSource = 4
number_of refusals.FrameDeadline = 5
number_of refusals.FrameEntry = 6
number_of refusals.FramePayloadLength = 7
number_of refusals.FrameLeftOver = 8
number_of refusals.PayloadLong = 9
number_of refusals.BufferShort = 10
number_of refusals.PanelNumber = 11
number_of refusals.OwnSource = 20
number_of refusals.Lapsed = 21
number_of refusals.HadAlready = 22
number_of refusals.ListFull = 23
number_of refusals.DeadlineTooHigh = 24
number_of refusals.ClockBack = 25
number_of refusals.RecordBroken = 26
number_of refusals.TooFarAhead = 32

-- the number of an answer: 0, or that of the refusal
abbrev pub number_in : {A : Type 0} → Result A Refusal → ℕ
number_in (Ok _) = 0
number_in (Err refusal) = number_of refusal

-- the number of the first check that applies, 0 where none does
unfoldable pub first_of : List (Bool × ℕ) → ℕ
first_of [] = 0
first_of (check ∷ checks) = cond check.0 check.1 (first_of checks)
