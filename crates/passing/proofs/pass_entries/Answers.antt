-- `passing::pass_entries` meets its contract. Its loop's invariant is `PassedBelow`. Assumes nothing.
use mathlib.Core.Path.{sym, ap, ◌∙◌, subst}
use Prim.Native.Nat.{ℕ, ◌^◌, ◌<◌, max}
use native.Mathlib.Omega.{arith}
use borrow.Author.Rules.{rules}
use lib.ListN.{get_or}
use Rattle.rules.specs.Handing.{remains, missed_entry}
use Rattle.slots.proofs.SetBits.{next}
use Rattle.passing.proofs.Passing.{PassedBelow, passed_start, passed_room, passed_end, passed_on}
use Rattle.passing.proofs.pass_entries.Goals as goal

pub loop-bits-init : goal.loop-bits-init
loop-bits-init c =
    let a = c.args in
    let bs = a.message.frame.now in
    subst (λ (bits : ℕ). PassedBelow bs a.barrier.now a.marks.now a.time a.floor.now a.barrier.now bits 0 a.floor.now) (sym c.mask-bits.ensures)
    (passed_start bs a.barrier.now a.marks.now a.time a.floor.now (subst (λ (bits : ℕ). bits < 2 ^ 64) c.mask-bits.ensures (search rules)))

pub overflow_mul-passed : goal.overflow_mul-passed
overflow_mul-passed c = search (rules, passed_room _ _ _ _ _ c.loop-bits.invariant c.loop-bits-test.true c.args.message.reads)

pub overflow_add-passed : goal.overflow_add-passed
overflow_add-passed c = search (rules, passed_room _ _ _ _ _ c.loop-bits.invariant c.loop-bits-test.true c.args.message.reads)

pub number_at-carried-requires : goal.number_at-carried-requires
number_at-carried-requires c = omega (arith, passed_room _ _ _ _ _ c.loop-bits.invariant c.loop-bits-test.true c.args.message.reads)

pub overflow_add-passed-in-loop-bits : goal.overflow_add-passed-in-loop-bits
overflow_add-passed-in-loop-bits c = search (rules, passed_room _ _ _ _ _ c.loop-bits.invariant c.loop-bits-test.true c.args.message.reads)

pub loop-bits-preserved : goal.loop-bits-preserved
loop-bits-preserved c =
    let l = c.loop-bits in
    let a = c.args in
    let entry = c.number_at-carried.ensures.0 in
    let mark = get_or a.marks.now (next l.bits) 0 in
    passed_on _ _ _ _ _ l.invariant c.loop-bits-test.true c.remaining.result c.raise_floor.new.floor
    (c.remaining.ensures ∙ ap (remains (get_or l.barrier (next l.bits) 0)) entry)
    (c.raise_floor.ensures ∙ ap (λ (e : ℕ). max l.floor (missed_entry a.time 0 mark e)) entry)

pub returns : goal.returns
returns c = passed_end _ _ _ _ _ c.loop-bits.invariant c.loop-bits-test.false
