-- `numbers::number_at` meets its contract: the number is that of its first bytes with that of its last four behind it. Assumes nothing.
use mathlib.Core.Path.{◌≡◌, sym, ap, ap₂, ◌∙◌, subst}
use Prim.Native.Nat.{ℕ, ◌+◌, ◌-◌, ◌*◌, ◌^◌, ◌≤◌, ◌<◌}
use native.Mathlib.Omega.{arith}
use Rattle.numbers.specs.Numbers.{number_at}
use Rattle.numbers.proofs.BigEndian.{pow-le, pow-lt-add}
use Rattle.numbers.proofs.NumberAt.{number_at_add}
use Rattle.numbers.proofs.number_at.Goals as goal

-- the number is below 256 ^ width
below : (width high low : ℕ) → 5 ≤ width → high < 256 ^ (width - 4) → low < 256 ^ 4 → high * 256 ^ 4 + low < 256 ^ width
below width high low above h l =
    let e : width - 4 + 4 ≡ width = omega (arith, above) in
    subst (λ (n : ℕ). high * 256 ^ 4 + low < 256 ^ n) e (pow-lt-add (width - 4) 4 high low h l)

pub overflow_mul-result : goal.overflow_mul-result
overflow_mul-result c =
    omega (arith, below c.args.width c.bytewise-2.result 0 (omega arith) c.bytewise-2.ensures.1 (omega arith), pow-le c.args.width (omega arith))

pub overflow_add-result : goal.overflow_add-result
overflow_add-result c =
    omega (
      arith,
      below c.args.width c.bytewise-2.result c.bytewise-3.result (omega arith) c.bytewise-2.ensures.1 c.bytewise-3.ensures.1,
      pow-le c.args.width (omega arith),
    )

pub returns : goal.returns
returns c =
    let a = c.args in
    let e : a.width - 4 + 4 ≡ a.width = omega arith in (
      ap₂ (λ (high low : ℕ). high * 256 ^ 4 + low) c.bytewise-2.ensures.0 c.bytewise-3.ensures.0
          ∙ sym (number_at_add a.bytes.now a.at (a.width - 4) 4 (omega arith))
          ∙ ap (number_at a.bytes.now a.at) e,
      below a.width c.bytewise-2.result c.bytewise-3.result (omega arith) c.bytewise-2.ensures.1 c.bytewise-3.ensures.1,
    )
