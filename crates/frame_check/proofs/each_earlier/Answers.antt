-- `frame_check::each_earlier` meets its contract: the entries so far passed, so those that are left decide. Assumes nothing.
use Rattle.std.proofs.Common.{ℕ, ◌+◌, ◌-◌, ◌*◌, ◌<◌, ◌≤◌, sym, ap₂, ◌∙◌, arith, mul-zero, mul-suc}
use native.Mathlib.Nat.{mul-le-mul_left}
use Rattle.numbers.specs.Numbers.{numbers_at}
use Rattle.frame.specs.Frame.{width_of}
use Rattle.frame.specs.Reading.{each_earlier}
use Rattle.frame.proofs.EachNumber.{each_earlier-none, each_earlier_outside, each_earlier-next}
use Rattle.frame_check.proofs.each_earlier.Goals as goal

-- the entry at hand is one of them
within : (width i count : ℕ) → i < count → width * i + width ≤ width * count
within width i count more = omega (arith, mul-le-mul_left width more, mul-suc width i)

pub loop-init : goal.loop-init
loop-init c =
    let w = width_of c.args.version in
    record {
      place = rw mul-zero (omega arith);
      decide = ap₂ (λ (at left : ℕ). each_earlier c.args.deadline (numbers_at c.args.frame.now at w left)) (omega arith) (omega arith);
    }

pub entry_at-requires : goal.entry_at-requires
entry_at-requires c = omega (arith, within (width_of c.args.version) c.loop.counter c.args.count (omega arith))

pub overflow_add-at-in-loop : goal.overflow_add-at-in-loop
overflow_add-at-in-loop c = omega (arith, within (width_of c.args.version) c.loop.counter c.args.count (omega arith))

pub returns-then-limit-wrapping_sub_u64 : goal.returns-then-limit-wrapping_sub_u64
returns-then-limit-wrapping_sub_u64 c =
    let l = c.loop in
    sym
    (l.invariant.decide
    ∙ each_earlier_outside _ _ l.at _ (c.args.count - l.counter) (omega arith)
    (λ pos. omega (arith, pos, c.entry_at.ensures, c.wrapping_sub_u64.ensures, c.if-limit-wrapping_sub_u64.true)))

pub loop-preserved : goal.loop-preserved
loop-preserved c =
    let l = c.loop in
    let w = width_of c.args.version in
    let read = c.entry_at.ensures in
    let less = c.wrapping_sub_u64.ensures in
    let passed = c.if-limit-wrapping_sub_u64.false in
    record {
      place = omega (arith, mul-suc w l.counter);
      decide =
          l.invariant.decide
          ∙ each_earlier-next _ _ l.at w (c.args.count - l.counter) (omega arith) (omega (arith, read, less, passed)) (omega (arith, read, less, passed))
          ∙ ap₂ (λ (at left : ℕ). each_earlier c.args.deadline (numbers_at c.args.frame.now at w left)) (omega arith) (omega arith);
    }

pub returns : goal.returns
returns c = let l = c.loop in sym (l.invariant.decide ∙ each_earlier-none _ _ l.at _ (c.args.count - l.counter) (omega arith))
