-- `clocking::clock_in_place` meets its contract: a refusal is the first check that applies, and the rest is document 01's clock. Assumes nothing.
use Rattle.std.proofs.Common.{rules, sym, refl, arith}
use Rattle.rules.specs.Results.{clock}
use Rattle.rules.proofs.Checks.{clock_passed}
use Rattle.slots.specs.Slots.{first_slots}
use Rattle.lent.specs.Record.{known, record_of, parts_of}
use Rattle.settling.specs.Record.{stage_at}
use Rattle.parts.proofs.Answering.{refusal_in_place, valid_kept}
use Rattle.parts.proofs.Refusing.{seen_broken}
use Rattle.clocking.proofs.ClockDone.{numbered, clocked_done}
use Rattle.clocking.proofs.clock_in_place.Goals as goal

pub returns-in_err-check-clause-promised : goal.returns-in_err-check-clause-promised
returns-in_err-check-clause-promised c =
    let a = c.args in
    let lent = parts_of a.state.now a.list.now in
    refusal_in_place lent (clock _ _) _ _ c.from_residual.ensures.1
    (numbered lent a.reading a.output.now _ _ (seen_broken c.of.ensures c.broken-broken.ensures) c.in_err-check.ensures)

pub alive-places-requires : goal.alive-places-requires
alive-places-requires c =
    let a = c.args in
    let lent = parts_of a.state.now a.list.now in
    let n = numbered lent a.reading a.output.now _ _ (seen_broken c.of.ensures c.broken-broken.ensures) c.in_ok-check.ensures in
    (search rules, valid_kept lent (clock_passed (record_of lent) a.reading a.output.now (sym n)).valid)

pub settle_slots-requires-clause-room : goal.settle_slots-requires-clause-room
settle_slots-requires-clause-room c =
    let a = c.args in
    let lent = parts_of a.state.now a.list.now in
    let n = numbered lent a.reading a.output.now _ _ (seen_broken c.of.ensures c.broken-broken.ensures) c.in_ok-check.ensures in
    omega (arith, c.alive-places.ensures.listed.few, (clock_passed (record_of lent) a.reading a.output.now (sym n)).output_room)

pub returns-clause-promised : goal.returns-clause-promised
returns-clause-promised c =
    let a = c.args in
    let lent = parts_of a.state.now a.list.now in
    let n = numbered lent a.reading a.output.now _ _ (seen_broken c.of.ensures c.broken-broken.ensures) c.in_ok-check.ensures in
    let new = c.settle_slots.new in
    let settles = c.settle_slots.ensures.settled in
    let done =
    clocked_done lent a.reading a.output.now _ c.alive-places.ensures new.list.slots.now
    (stage_at (known new.state) new.list.count.now (first_slots 32) new.log.count new.log.output.now) _ (sym n) settles settles.panel in (
      search (rules, done),
      λ refuses. absurd (refuses refl),
    )
