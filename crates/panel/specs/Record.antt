-- The record that the struct holds, and what a call by value gives back.
use Rattle.std.specs.Prelude.{ℕ, ◌≡◌, List}
use Rattle.rules.specs.Panel.{Panel as Record}
use Rattle.rules.specs.Results.{Result}
use Rattle.lent.specs.Record.{Parts, parts}
use Rattle.lent.specs.Record.{record_of as record_in}
use Rattle.parts.specs.Answers.{answer_of}
use Rattle.parts.specs.Record.{answered}
use Rattle.panel.specs.declared.Panel.{Panel}
use Rattle.panel.specs.declared.Given.{Given}

-- the parts of the struct, and the record that it holds
abbrev pub parts_of : Panel → Parts
parts_of p = parts p.own p.time p.high p.count p.marks p.barrier p.slots p.floor

abbrev pub record_of : Panel → Record
record_of p = record_in (parts_of p)

-- on a refusal the very struct is given back, byte for byte
abbrev pub GivenBack : ℕ → Panel → Panel → Type 0
GivenBack number given back = (number ≡ 0 → ⊥) → back ≡ given

-- what a call has answered and given back, with what it left in the output and the frame buffer
abbrev pub result_of : Given → List ℕ → List ℕ → Result
result_of given output buffer = answered (answer_of given.answer) (record_of given.panel) output buffer

-- the number that it answers
abbrev pub number_given : Given → ℕ
number_given given = (answer_of given.answer).number
