-- One call of the module, on its records and bytes.
use Rattle.std.specs.Prelude.{ℕ, List}
use Rattle.rules.specs.Panel.{new_make}
use Rattle.rules.specs.Results.{Call, Result}
use Rattle.rules.specs.Lists.{Made}
use Rattle.parts.specs.declared.answer.Answer.{Answer}
use Rattle.lent.specs.Record.{Parts, record_of}
use Rattle.parts.specs.Record.{answered}

-- The record given to the call in its parts, the call, its answer, and as it ends the record and all bytes of the output and of the frame
-- buffer lent to it. Of a call by value these are the parts of the struct given and of the struct given back.
pub record Run : Type 0 where
  pub given : Parts
  pub call : Call
  pub answer : Answer
  pub left : Parts
  pub output : List ℕ
  pub buffer : List ℕ

-- the number of the panel that it names: that of the record given
abbrev pub panel_of : Run → ℕ
panel_of run = run.given.own

-- the result of a call
abbrev pub result_of : Run → Result
result_of run = answered run.answer (record_of run.left) run.output run.buffer

-- the call as the words of demand 3 speak of it: that of a panel of the new make
abbrev pub made_of : Run → Made
made_of run = record { at = panel_of run; make = new_make; call = run.call; result = result_of run }
