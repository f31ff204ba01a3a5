-- `receiving::receive_wide` meets its contract: a refusal is the first check that applies, and the rest is document 01's receive. Assumes nothing.
use Rattle.std.proofs.Common.{refl, sym, ◌∙◌, arith, rules}
use Rattle.rules.specs.Results.{receive}
use Rattle.rules.proofs.Checks.{receive_passed}
use Rattle.slots.specs.Slots.{first_slots}
use Rattle.lent.specs.Record.{known, parts_of, record_of}
use Rattle.settling.specs.Record.{stage_at}
use Rattle.parts.proofs.Answering.{refusal_in_place, valid_kept}
use Rattle.checking.proofs.Checking.{wide_reads, wide-message}
use Rattle.receiving.proofs.ReceiveDone.{seen_checked, room, received-done}
use Rattle.receiving.proofs.receive_wide.Goals as goal

pub returns-in_err-check_receive-clause-promised : goal.returns-in_err-check_receive-clause-promised
returns-in_err-check_receive-clause-promised c =
    let a = c.args in
    refusal_in_place (parts_of a.state.now a.list.now) (receive _ _) _ _ c.from_residual.ensures.1
    (c.in_err-check_receive.ensures ∙ seen_checked a.frame.now a.output.now c.of.ensures)

pub invariant_of-take : goal.invariant_of-take
invariant_of-take c =
    let a = c.args in
    let passed = sym (c.in_ok-check_receive.ensures ∙ seen_checked a.frame.now a.output.now c.of.ensures) in
    record { reads = wide_reads a.frame.now c.requires (receive_passed (record_of (parts_of a.state.now a.list.now)) a.frame.now a.output.now passed).read }

pub take-requires-clause-kept : goal.take-requires-clause-kept
take-requires-clause-kept c =
    let a = c.args in
    let lent = parts_of a.state.now a.list.now in
    let passed = sym (c.in_ok-check_receive.ensures ∙ seen_checked a.frame.now a.output.now c.of.ensures) in
    valid_kept lent (receive_passed (record_of lent) a.frame.now a.output.now passed).valid

pub take-requires-clause-place : goal.take-requires-clause-place
take-requires-clause-place c =
    let a = c.args in
    let lent = parts_of a.state.now a.list.now in
    let passed = sym (c.in_ok-check_receive.ensures ∙ seen_checked a.frame.now a.output.now c.of.ensures) in
    room lent _ _ (wide-message a.frame.now c.requires (receive_passed (record_of lent) a.frame.now a.output.now passed).read) passed

pub take-requires-clause-room : goal.take-requires-clause-room
take-requires-clause-room c =
    let a = c.args in
    let lent = parts_of a.state.now a.list.now in
    let passed = sym (c.in_ok-check_receive.ensures ∙ seen_checked a.frame.now a.output.now c.of.ensures) in
    omega (arith, (receive_passed (record_of lent) a.frame.now a.output.now passed).output_room)

pub settle_slots-requires-clause-slots : goal.settle_slots-requires-clause-slots
settle_slots-requires-clause-slots c = rw (c.first-places.ensures.0, c.first-places.ensures.1) c.take.ensures.taken.listed

pub settle_slots-requires-clause-room : goal.settle_slots-requires-clause-room
settle_slots-requires-clause-room c =
    let a = c.args in
    let lent = parts_of a.state.now a.list.now in
    let passed = sym (c.in_ok-check_receive.ensures ∙ seen_checked a.frame.now a.output.now c.of.ensures) in
    let checked = receive_passed (record_of lent) a.frame.now a.output.now passed in
    omega (arith, c.take.ensures.taken.one_more, (valid_kept lent checked.valid).few, checked.output_room, c.take.ensures.long)

pub returns-clause-promised : goal.returns-clause-promised
returns-clause-promised c =
    let a = c.args in
    let lent = parts_of a.state.now a.list.now in
    let passed = sym (c.in_ok-check_receive.ensures ∙ seen_checked a.frame.now a.output.now c.of.ensures) in
    let checked = receive_passed (record_of lent) a.frame.now a.output.now passed in
    let new = c.settle_slots.new in
    let settles = rw (c.first-places.ensures.0, c.first-places.ensures.1) at c.settle_slots.ensures.settled in
    let done =
    received-done lent a.frame.now a.output.now (valid_kept lent checked.valid) (wide_reads a.frame.now c.requires checked.read)
    (wide-message a.frame.now c.requires checked.read) _ _ c.take.ensures.taken new.list.slots.now
    (stage_at (known new.state) new.list.count.now (first_slots 32) new.log.count new.log.output.now) settles passed in
    (search (rules, done), λ refuses. absurd (refuses refl))
