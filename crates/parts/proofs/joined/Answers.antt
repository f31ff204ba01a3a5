-- `parts::joined` meets its contract: what the first pairs tell is not lost as more are joined. Assumes nothing.
use Rattle.std.proofs.Common.{arith}
use Rattle.parts.proofs.Joining.{joined_more}
use Rattle.parts.proofs.joined.Goals as goal

pub loop-i-preserved : goal.loop-i-preserved
loop-i-preserved c =
    let l = c.loop-i in
    let a = c.args in
    joined_more a.limit a.marks.now a.barrier.now l.i l.all c.wrapping_sub_u64.result c.wrapping_sub_u64.ensures.value (omega arith) l.invariant
