-- What a call in place promises of the parts of a record, and what settling the slots ensures.
use Rattle.std.specs.Prelude.{◌≡◌, ℕ, List, ◌≢◌}
use Rattle.rules.specs.Panel.{Panel as Record}
use Rattle.rules.specs.Settling.{settle}
use Rattle.rules.specs.Results.{Call, Result, Promised}
use Rattle.lent.specs.Record.{Parts, parts, record_of}
use Rattle.settling.specs.Record.{Stage, panel_at, Logged}
use Rattle.parts.specs.declared.answer.Answer.{Answer}

-- ---- the promise

-- what a call has answered, and left in what was lent to it: the record, the output and the frame buffer
abbrev pub answered : Answer → Record → List ℕ → List ℕ → Result
answered answer p output buffer =
    record { number = answer.number; panel = p; count = answer.count; output = output; frame_length = answer.length; buffer = buffer }

-- What a call in place promises, of the parts as they were lent and as they are at its end: the answer, the record that the parts then hold and
-- all bytes of each lent buffer are as document 01 defines them; and on a refusal every part is as it was, byte for byte.
abbrev pub PromisedInPlace : Parts → Call → Answer → Parts → List ℕ → List ℕ → Type 0
PromisedInPlace before call answer after output buffer =
    Promised (record_of before) call (answered answer (record_of after) output buffer) × ((answer.number ≢ 0) → after ≡ before)

-- ---- settling: no promise of a public call cites it

-- the record has settled, and what still waits lies in the first slots
pub record SettlesSlots (slots : List ℕ) (before : Stage) (slots' : List ℕ) (after : Stage) : Type 0 where
  pub panel : record_of (parts after.left.own after.left.time after.left.high after.left.waiting after.marks after.barrier slots' after.left.floor)
      ≡ (settle (panel_at slots before)).panel
  pub logged : Logged (settle (panel_at slots before)).handed before after
