-- `parts::each_at_most` meets its contract: the first numbers are at most the limit. Assumes nothing.
use Rattle.std.proofs.Common.{◌+◌, ◌∙◌, get_or, refl, arith, lt-ltb}
use mathlib.Core.Bool.{and-true}
use Rattle.frame.specs.Readable.{each_below}
use Rattle.parts.proofs.Refusing.{each_below_more, one_above}
use Rattle.parts.proofs.each_at_most.Goals as goal

pub loop-number-init : goal.loop-number-init
unfolding each_below
loop-number-init c = refl

pub returns-then-limit-number : goal.returns-then-limit-number
returns-then-limit-number c = one_above c.args.limit c.args.numbers.now c.loop-number.number-index (omega (arith, c.if-limit-number.true))

pub loop-number-preserved : goal.loop-number-preserved
loop-number-preserved c =
    let a = c.args in
    let i = c.loop-number.number-index in
    each_below_more (a.limit + 1) a.numbers.now i (omega (arith, c.loop-number-test.true))
    ∙ rw (lt-ltb (get_or a.numbers.now i 0) (a.limit + 1) (omega (arith, c.if-limit-number.false))) (and-true _)
    ∙ c.loop-number.invariant
