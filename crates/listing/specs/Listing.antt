-- Document 01, "Bundle and listing program": what "list" prints.
use Rattle.std.specs.Prelude.{ℕ, zero, suc, ◌+◌, Bool, true, false, cond, List, [], ◌++◌, length, replicate, ltb}
use Rattle.bundle.specs.declared.Step.{Step}
use Rattle.bundle.specs.declared.Step.TheVariants.{Frame, End, Broken}
use Rattle.bundle.specs.Bundle.{step_at, frame_at}
use Rattle.rules.specs.Sizes.{output_length}
use Rattle.rules.specs.Panel.{Panel, fresh}
use Rattle.rules.specs.Results.{Result, receive, defined}
use Rattle.text.specs.Text.{ascii}
use Rattle.lines.specs.Lines.{frame_line, hand_lines}

-- where the listing stands: the panel's record, the place in the bundle, and the frames so far
pub record State : Type 0 where
  pub panel : Panel
  pub place : ℕ
  pub frames : ℕ

-- It feeds a fresh panel 0 at time 0.
abbrev pub start : State
start = record { panel = fresh 0; place = 0; frames = 0 }

-- what the receive of the next frame gives; its output is lent with zeros
unfoldable pub received : List ℕ → State → Result
received bundle s = defined s.panel (receive (frame_at bundle s.place) (replicate output_length 0))

-- Per frame it prints its line, then one per log record. The last line is `end` or `broken`.
abbrev pub lines_of : Step → ℕ → Result → List ℕ
lines_of (Frame begin size next) number result = frame_line number result.number ++ hand_lines result.count result.output
lines_of End number result = ascii "end\n"
lines_of Broken number result = ascii "broken\n"

unfoldable pub lines_at : List ℕ → State → List ℕ
lines_at bundle s = lines_of (step_at bundle s.place) (s.frames + 1) (received bundle s)

-- where the listing stands after that
abbrev pub onward : Step → State → Result → State
onward (Frame begin size next) s result = record { panel = result.panel; place = next; frames = s.frames + 1 }
onward End s result = s
onward Broken s result = s

unfoldable pub state_after : List ℕ → State → State
state_after bundle s = onward (step_at bundle s.place) s (received bundle s)

-- after a frame it goes on
abbrev pub goes_on : Step → Bool
goes_on (Frame begin size next) = true
goes_on End = false
goes_on Broken = false

-- the lines of at most so many steps
unfoldable pub lines_from : ℕ → List ℕ → State → List ℕ
lines_from zero bundle s = []
lines_from (suc most) bundle s =
    lines_at bundle s ++ cond (goes_on (step_at bundle s.place)) (lines_from most bundle (state_after bundle s)) []

-- the bytes of the longest bundle that is listed
abbrev pub longest : ℕ
longest = 65535

-- the whole listing of a bundle of at most so many bytes, which has fewer frames than bytes; a longer one prints only `long`
unfoldable pub listing : List ℕ → List ℕ
listing input = cond (ltb longest (length input)) (ascii "long\n") (lines_from (suc (length input)) input start)
