-- `parts::settle_slots` meets its contract. Assumes nothing.
use Rattle.std.proofs.Common.{◌≡◌, length, rules}
use Rattle.settling.specs.Record.{stage_of}
use Rattle.parts.proofs.Answering.{settles_slots}
use Rattle.parts.proofs.settle_slots.Goals as goal

pub returns-clause-settled : goal.returns-clause-settled
returns-clause-settled c =
    let long : length c.args.places.slots ≡ 32 = search rules in
    let left = stage_of c.settle.new.state c.settle.new.list c.settle.new.log in
    settles_slots _ _ left.left _ _ _ _ _ c.settle.ensures.settled long c.gather.ensures
