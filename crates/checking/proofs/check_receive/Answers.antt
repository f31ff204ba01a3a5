-- `checking::check_receive` meets its contract: the checks of the frame, and then those of its message. Assumes nothing.
use Rattle.std.proofs.Common.{sym, ap, ◌∙◌, arith}
use Rattle.frame.specs.Message.{Message}
use Rattle.frame.specs.Refusal.{first_of}
use Rattle.frame.proofs.Refusals.{number_of_pos, number_in_given}
use Rattle.rules.specs.Refusals.{message_checks}
use Rattle.lent.specs.Record.{parts_in, record_of}
use Rattle.parts.proofs.Answering.{valid_kept}
use Rattle.checking.proofs.Checking.{wide_reads, wide-message, framed, frame_refused, frame_through, through_reads, through_valid}
use Rattle.checking.proofs.check_receive.Goals as goal

pub returns-in_err-check_frame : goal.returns-in_err-check_frame
returns-in_err-check_frame c =
    let refusal = c.in_err-check_frame.field-0.0 in
    let number = framed (record_of (parts_in c.args.view)) _ _ _ _ c.broken.ensures c.in_err-check_frame.ensures in
    number_in_given _ refusal c.from_residual.ensures.1
    ∙ number
    ∙ frame_refused _ _ _ (λ e. omega (arith, number_of_pos refusal, number ∙ e))

pub invariant_of-check_message : goal.invariant_of-check_message
invariant_of-check_message c =
    let a = c.args in
    let given = record_of (parts_in a.view) in
    let through = sym (framed given _ _ _ _ c.broken.ensures c.in_ok-check_frame.ensures) in
    record { reads = wide_reads a.frame.now c.requires (through_reads given a.frame.now a.output.now through) }

pub check_message-requires : goal.check_message-requires
check_message-requires c =
    let a = c.args in
    let given = record_of (parts_in a.view) in
    let through = sym (framed given _ _ _ _ c.broken.ensures c.in_ok-check_frame.ensures) in
    valid_kept (parts_in a.view) (through_valid given a.frame.now a.output.now through)

pub returns : goal.returns
returns c =
    let a = c.args in
    let bytes = a.frame.now in
    let given = record_of (parts_in a.view) in
    let through = sym (framed given _ _ _ _ c.broken.ensures c.in_ok-check_frame.ensures) in
    c.check_message.ensures
    ∙ ap (λ (m : Message). first_of (message_checks given m)) (sym (wide-message bytes c.requires (through_reads given bytes a.output.now through)))
    ∙ frame_through given bytes a.output.now through
