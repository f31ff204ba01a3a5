-- What a call answers, as C has it: the number 0 with count and length, or that of the refusal with 0 and 0.
use Rattle.std.specs.Prelude.{Result, Ok, Err}
use Rattle.frame.specs.declared.refusal.Refusal.{Refusal}
use Rattle.frame.specs.Refusal.{number_of}
use Rattle.parts.specs.declared.answer.Accepted.{Accepted}
use Rattle.parts.specs.declared.answer.Answer.{Answer}

abbrev pub answer_of : Result Accepted Refusal → Answer
answer_of (Ok accepted) = record { count = accepted.count; length = accepted.length; number = 0 }
answer_of (Err refusal) = record { count = 0; length = 0; number = number_of refusal }
