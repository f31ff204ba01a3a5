-- What a set-back call leaves, and its answer: a number alone.
use Rattle.std.specs.Prelude.{ℕ, ◌≡◌, true, false, min, Result, Ok, Err}
use Rattle.frame.specs.declared.refusal.Refusal.{Refusal}
use Rattle.frame.specs.Refusal.{number_of}
use Rattle.rules.specs.Refusals.{broken}
use Rattle.lent.specs.Record.{Parts, record_of}
use Rattle.parts.specs.declared.answer.Answer.{Answer}

-- it counts no log records, and no frame was written
abbrev pub answer_of : ℕ → Answer
answer_of number = record { count = 0; length = 0; number = number }

-- the time that is left, the lower of the two; or 26, where that applies
abbrev pub TimeLeft : Parts → ℕ → Result ℕ Refusal → Type 0
TimeLeft p reading (Ok time) = (broken (record_of p) ≡ false) × (time ≡ min p.time reading)
TimeLeft p reading (Err refusal) = (broken (record_of p) ≡ true) × (number_of refusal ≡ 26)
