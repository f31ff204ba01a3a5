-- `tracing::trace_wide` meets its contract: the number is that of the first check that applies, the rest is the answer of the test for
-- ready. Assumes nothing.
use Rattle.std.proofs.Common.{◌≡◌, sym, ap, ◌∙◌, arith}
use Rattle.frame.specs.Message.{Message}
use Rattle.frame.specs.Refusal.{first_of}
use Rattle.frame.specs.Reading.{refusal_of}
use Rattle.frame.proofs.Refusals.{number_of_pos}
use Rattle.rules.specs.Panel.{ready}
use Rattle.rules.specs.Refusals.{message_checks}
use Rattle.rules.proofs.Checks.{broken-false}
use Rattle.visits.specs.Visiting.{visits}
use Rattle.choosing.specs.Choice.{asking}
use Rattle.lent.specs.Record.{parts_in, record_of}
use Rattle.parts.proofs.Answering.{valid_kept}
use Rattle.checking.proofs.Checking.{wide-message}
use Rattle.tracing.proofs.Showing.{number-broken, number_unread, number_read, shown_unread, shown_read}
use Rattle.tracing.proofs.trace_wide.Goals as goal

pub returns-in-Err : goal.returns-in-Err
returns-in-Err c =
    let given = record_of (parts_in c.args.view) in
    let refusal = c.in-Err.refusal in
    let unread : refusal_of c.args.frame.now ≡ 0 → ⊥ = λ read. omega (arith, number_of_pos refusal, c.in-Err.ensures ∙ read) in
    shown_unread given c.args.frame.now _
    (c.number.ensures
    ∙ c.unread.ensures
    ∙ number_unread given c.args.frame.now _ _ c.broken-broken.ensures c.in-Err.ensures (λ none. unread (sym c.in-Err.ensures ∙ none)))
    unread

pub returns-then-broken : goal.returns-then-broken
returns-then-broken c =
    let view = c.args.view in
    let given = record_of (parts_in view) in
    let read = sym c.in_default.ensures in
    let asked = asking view.marks.now view.time view.floor in
    let same = sym (wide-message c.args.frame.now c.requires read) in
    shown_read given c.args.frame.now _ (c.number-then-broken.ensures ∙ number-broken given c.args.frame.now (sym c.broken-broken.ensures ∙ c.if-broken.true))
    read _ _ (c.ready-tested.ensures.ready_value ∙ ap (ready asked) same)
    (c.ready-tested.ensures.visited_value ∙ ap (λ (m : Message). visits asked m) same)

pub check_message-requires : goal.check_message-requires
check_message-requires c =
    valid_kept (parts_in c.args.view) (broken-false (record_of (parts_in c.args.view)) (sym c.broken-broken.ensures ∙ c.if-broken.false))

pub returns : goal.returns
returns c =
    let view = c.args.view in
    let given = record_of (parts_in view) in
    let read = sym c.in_default.ensures in
    let asked = asking view.marks.now view.time view.floor in
    let same = sym (wide-message c.args.frame.now c.requires read) in
    let number = c.number_in.ensures
    ∙ c.check_message.ensures
    ∙ ap (λ (m : Message). first_of (message_checks given m)) same
    ∙ number_read given c.args.frame.now (sym c.broken-broken.ensures ∙ c.if-broken.false) read in
    shown_read given c.args.frame.now _ number read _ _ (c.ready-tested.ensures.ready_value ∙ ap (ready asked) same)
    (c.ready-tested.ensures.visited_value ∙ ap (λ (m : Message). visits asked m) same)
