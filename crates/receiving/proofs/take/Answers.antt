-- `receiving::take` meets its contract: a ready message is handed, any other is put behind those that wait. Assumes nothing.
use Rattle.std.proofs.Common.{sym, ◌∙◌, rules}
use Rattle.lent.specs.Record.{known}
use Rattle.receiving.proofs.Taking.{room_unready, length_reads, taken_handed, taken_waiting}
use Rattle.receiving.proofs.take.Goals as goal

pub returns-then-ready-clause-taken : goal.returns-then-ready-clause-taken
returns-then-ready-clause-taken c =
    let one = c.hand.ensures.handed in
    taken_handed _ _ _ _ _ _ c.args.message.reads c.requires.kept (sym c.ready.ensures.ready_value ∙ c.if-ready.true)
    (known c.hand.new.state) c.hand.new.log.count c.hand.new.log.output.now one.known one.log.count one.log.output

pub put_frame-requires : goal.put_frame-requires
put_frame-requires c =
    let few = room_unready _ _ _ c.requires.place (sym c.ready.ensures.ready_value ∙ c.if-ready.false) in
    (search rules, few, length_reads _ c.args.message.reads)

pub returns-clause-taken : goal.returns-clause-taken
returns-clause-taken c =
    let unready = sym c.ready.ensures.ready_value ∙ c.if-ready.false in
    taken_waiting _ _ _ _ _ _ c.args.message.reads c.requires.kept unready (room_unready _ _ _ c.requires.place unready) (search rules) _ c.put_frame.ensures
