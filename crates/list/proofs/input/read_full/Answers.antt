-- `list::input::read_full` meets its contract: what is read so far stands at the buffer's start. Assumes nothing.
use Rattle.std.proofs.Common.{rules}
use Rattle.list.proofs.Taken.{read_more}
use Rattle.list.proofs.input.read_full.Goals as goal

pub loop-done-preserved : goal.loop-done-preserved
loop-done-preserved g c =
    let l = c.loop-done in (
      search rules,
      read_more _ _ _ l.done c.in_ok-n.n _ l.buffer c.read.new.buf l.invariant.0 c.in_ok-n.ensures.bound.0 l.invariant.1 c.in_ok-n.ensures.bytes.0,
    )
