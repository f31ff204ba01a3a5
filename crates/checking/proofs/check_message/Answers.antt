-- `checking::check_message` meets its contract: one of the checks before the last applies, or that decides. Assumes nothing.
use Rattle.std.proofs.Common.{sym, ap₂, ◌∙◌, arith}
use Rattle.frame.specs.Reading.{message_in}
use Rattle.frame.proofs.Refusals.{number_of_pos, number_in_given}
use Rattle.rules.specs.Sizes.{width}
use Rattle.slots.proofs.Held.{length-first_slots}
use Rattle.lent.specs.Record.{parts_in, record_of}
use Rattle.checking.specs.Checks.{full_number}
use Rattle.checking.proofs.MessageChecks.{ready-asking, before_last, at_last}
use Rattle.checking.proofs.check_message.Goals as goal

pub returns-in_err-check_early : goal.returns-in_err-check_early
returns-in_err-check_early c =
    let refusal = c.in_err-check_early.field-0.0 in
    number_in_given _ refusal c.from_residual.ensures.1
    ∙ c.in_err-check_early.ensures
    ∙ before_last _ _ (λ e. omega (arith, number_of_pos refusal, c.in_err-check_early.ensures ∙ e))

pub returns : goal.returns
returns c =
    let view = c.args.view in
    let given = record_of (parts_in view) in
    let m = message_in width c.args.message.frame.now in
    c.check_place.ensures ∙ ap₂ full_number (sym (length-first_slots view.slots.now view.count)) (ready-asking given m)
    ∙ sym (at_last given m (sym c.in_ok-check_early.ensures))
