-- `numbers::put_bytes` meets its contract: after i turns the first i bytes are in place. Assumes nothing.
use mathlib.Core.Path.{refl, ◌∙◌}
use native.Mathlib.Numerals.{add-one}
use native.Mathlib.Omega.{arith}
use lib.ListN.{length-set}
use lib.Seq.{paste-zero, paste-suc}
use Rattle.numbers.proofs.Over.{over_paste}
use Rattle.numbers.proofs.put_bytes.Goals as goal

pub loop-i-init : goal.loop-i-init
loop-i-init c = (paste-zero c.args.buffer.now c.args.at c.args.bytes.now, refl)

pub loop-i-preserved : goal.loop-i-preserved
loop-i-preserved c =
    let l = c.loop-i in
    let a = c.args in (
      rw (l.invariant.0, add-one) (paste-suc a.buffer.now a.at a.bytes.now l.i 0 (omega arith) (omega arith)),
      rw length-set l.invariant.1,
    )

pub shape_of-buffer : goal.shape_of-buffer
shape_of-buffer c = c.loop-i.invariant.1

pub returns : goal.returns
returns c =
    let l = c.loop-i in
    let a = c.args in
    l.invariant.0 ∙ over_paste a.buffer.now a.at a.bytes.now l.i (omega arith)
