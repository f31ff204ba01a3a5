-- How cases are written: a step is a record and a call in; the answer, the record and all bytes out. Bytes are written out by hand.
use Rattle.std.specs.Prelude.{ℕ, ◌*◌, ◌≡◌, length, take, drop, set, replicate}
use mathlib.Core.List.{List, [], ◌∷◌, ◌++◌, map, flatten}
use Rattle.frame.specs.Message.{Message}
use Rattle.rules.specs.Sizes.{log_record_length, output_length, buffer_length}
use Rattle.rules.specs.Panel.{new_make, Panel, none64}
use Rattle.rules.specs.Results.{Call, Result, defined}

-- a step: the record and the call that go in, and what comes out
pub record Step : Type 0 where
  pub panel : Panel
  pub call : Call
  pub result : Result

abbrev pub step : Panel → Call → Result → Step
step panel call result = record { panel = panel; call = call; result = result }

-- the results that documents 01 and 02 define are those of the case
abbrev pub Holds : List Step → Type 0
Holds steps = map (λ (s : Step). s.result) steps ≡ map (λ (s : Step). defined s.panel s.call) steps

-- each case of a list holds
infixr 5 ◌and◌
pub data EachHolds : List (List Step) → Type 0 where
  finished : EachHolds []
  ◌and◌ : {steps : List Step} {cases : List (List Step)} → Holds steps → EachHolds cases → EachHolds (steps ∷ cases)

-- ---- records, bytes and results

-- 64 numbers: those of the panels named, 0 at the others
abbrev pub of : List (ℕ × ℕ) → List ℕ
of [] = none64
of (n ∷ ns) = set (of ns) n.0 n.1

-- own number, time, high, marks, barrier, waiting; floor 0, of the new make
abbrev pub panel_of : ℕ → ℕ → ℕ → List ℕ → List ℕ → List Message → Panel
panel_of own time high marks barrier waiting =
    record { own = own; time = time; high = high; marks = marks; barrier = barrier; waiting = waiting; floor = 0; make = new_make }

-- the record with another floor
abbrev pub with_floor : ℕ → Panel → Panel
with_floor floor p =
    record {
      own = p.own;
      time = p.time;
      high = p.high;
      marks = p.marks;
      barrier = p.barrier;
      waiting = p.waiting;
      floor = floor;
      make = p.make;
    }

-- the buffers as they are lent
abbrev pub output : List ℕ
output = replicate output_length 7

abbrev pub buffer : List ℕ
buffer = replicate buffer_length 7

-- a log record that begins with these bytes, zeros behind
abbrev pub logged : List ℕ → List ℕ
logged bytes = take log_record_length (bytes ++ replicate log_record_length 0)

-- a frame of version 2: mark and version, then these bytes: those up to the last 00 of the mask, and those behind
abbrev pub frame_from : List ℕ → List ℕ → List ℕ
frame_from start rest = 0x44 ∷ 0x52 ∷ 0x59 ∷ 0x00 ∷ 0x02 ∷ (start ++ rest)

-- a frame of version 1
abbrev pub narrow_from : List ℕ → List ℕ → List ℕ
narrow_from start rest = 0x44 ∷ 0x52 ∷ 0x59 ∷ 0x00 ∷ 0x01 ∷ (start ++ rest)

-- the high half of a deadline or entry that 32 bits hold, and the bytes behind it
abbrev pub zeros4 : List ℕ → List ℕ
zeros4 rest = 0x00 ∷ 0x00 ∷ 0x00 ∷ 0x00 ∷ rest

-- the mask of a frame without entries
abbrev pub zeros8 : List ℕ
zeros8 = replicate 8 0x00

-- the output with these log records
abbrev pub output_with : List (List ℕ) → List ℕ
output_with records = flatten records ++ drop (log_record_length * length records) output

-- a send gave this record, these log records and this frame
abbrev pub sent : Panel → List (List ℕ) → List ℕ → Result
sent panel records frame =
    record {
      number = 0;
      panel = panel;
      count = length records;
      output = output_with records;
      frame_length = length frame;
      buffer = frame ++ drop (length frame) buffer;
    }

-- a receive or a clock call gave this record and these log records
abbrev pub taken : Panel → List (List ℕ) → Result
taken panel records = record { number = 0; panel = panel; count = length records; output = output_with records; frame_length = 0; buffer = [] }

-- a set-back call gave this record
abbrev pub set_back_to : Panel → Result
set_back_to panel = record { number = 0; panel = panel; count = 0; output = []; frame_length = 0; buffer = [] }

-- a call with these lent buffers was refused with that number
abbrev pub refused_with : ℕ → Panel → List ℕ → List ℕ → Result
refused_with number panel output buffer =
    record { number = number; panel = panel; count = 0; output = output; frame_length = 0; buffer = buffer }
