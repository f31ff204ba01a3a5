-- `writing::readable` meets its contract: the tests are those of the definition, in its order. Assumes nothing.
use Rattle.std.proofs.Common.{sym, ◌∙◌, arith}
use Rattle.frame.specs.Message.{message_of}
use Rattle.frame.specs.Frame.{wide}
use mathlib.Core.Logic.{⊎_elim}
use Rattle.frame.proofs.Readable.{readable_deadline}
use Rattle.writing.proofs.Tests.{readable_source, readable_entries, readable_payload}
use Rattle.writing.proofs.readable.Goals as goal
use Rattle.writing.proofs.readable.Goals.{then-deadline-gt0, else-deadline-gt0}

pub returns-then-each_below : goal.returns-then-each_below
returns-then-each_below c =
    let a = c.args in
    elim c.if-deadline-gt0.branch [
      | then-deadline-gt0 w ↦
          readable_payload wide (message_of a.source a.deadline a.entries.now a.payload.now)
          (omega arith) (λ none. omega arith) (omega arith) c.requires
          (sym w.each_below.ensures ∙ sym w.value-is ∙ c.if-each_below.true)
          (λ i. omega (arith, c.type_inv.payload i))
      | else-deadline-gt0 w ↦ cc
    ]

pub returns-else-each_below : goal.returns-else-each_below
returns-else-each_below c =
    let a = c.args in
    elim c.if-deadline-gt0.branch [
      | then-deadline-gt0 w ↦
          c.if-each_below.false
          ∙ sym (readable_entries wide (message_of a.source a.deadline a.entries.now a.payload.now)
          (sym w.each_below.ensures ∙ sym w.value-is ∙ c.if-each_below.false))
      | else-deadline-gt0 w ↦
          let m = message_of a.source a.deadline a.entries.now a.payload.now in
          c.if-each_below.false
          ∙ sym (⊎_elim (λ none. readable_deadline wide m (omega (arith, none.1))) (λ late. readable_source wide m late) w.if-deadline-gt0.either)
    ]
