-- What `read` and `payload` answer for a reading.
use Rattle.std.specs.Prelude.{ℕ, ◌+◌, ◌-◌, ◌≡◌, List, [], length, Result, Ok, Err}
use Rattle.std.specs.Borrow.{Bor}
use Rattle.reading.specs.declared.Fields.{Fields}
use Rattle.frame.specs.declared.refusal.Refusal.{Refusal}
use Rattle.frame.specs.Message.{mask_of}
use Rattle.frame.specs.Refusal.{number_of}
use Rattle.frame.specs.Reading.{Reading, message, refused, reading_of}

-- the fields; for bytes turned down the number
abbrev pub fields_of : Reading → Result Fields ℕ
fields_of (message m) =
    Ok
    record {
      source = m.source;
      deadline = m.deadline;
      mask = mask_of m.entries;
      entries = m.entries;
      payload_length = length m.payload;
    }
fields_of (refused n) = Err n

-- an answer with the number of its refusal
abbrev pub numbered : {A : Type 0} → Result A Refusal → Result A ℕ
numbered (Ok a) = Ok a
numbered (Err refusal) = Err (number_of refusal)

-- the payload; for bytes turned down the empty one
abbrev pub payload_of : Reading → List ℕ
payload_of (message m) = m.payload
payload_of (refused n) = []

-- where it starts: the payload is the end of the bytes bs; for bytes turned down at their start
abbrev pub start_of : List ℕ → Reading → ℕ
start_of bs (message m) = length bs - length m.payload
start_of bs (refused n) = 0

-- the payload as the part of the caller's bytes that it occupies: what it holds, in which memory block, and from which place on
pub record PayloadPart (frame part : Bor (List ℕ)) : Type 0 where
  pub bytes : part.now ≡ payload_of (reading_of frame.now)
  pub block : part.ref_ptr.0 ≡ frame.ref_ptr.0
  pub place : part.ref_ptr.1 ≡ start_of frame.now (reading_of frame.now) + frame.ref_ptr.1
