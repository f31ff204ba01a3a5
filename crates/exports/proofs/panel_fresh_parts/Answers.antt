-- `exports::panel_fresh_parts` meets its contract: its test is that of 11, and each part is that of a fresh panel. Assumes nothing.
use mathlib.Core.Path.{refl, sym, ◌∙◌}
use Prim.Native.Nat.{◌≤◌, ◌<◌}
use native.Mathlib.Omega.{arith}
use Rattle.rules.specs.Panel.{none64, fresh}
use Rattle.slots.specs.Slots.{held, up_from}
use Rattle.exports.proofs.Fresh.{fresh_number_above, fresh_number_within, fresh_record_above, fresh_record_within}
use Rattle.exports.proofs.panel_fresh_parts.Goals as goal

pub returns-then-number-gt63 : goal.returns-then-number-gt63
unfolding held fresh up_from none64
returns-then-number-gt63 c =
    let number = c.args.number in
    let above : 63 < c.args.number = omega (arith, c.if-number-gt63.true) in
    (c.number.ensures ∙ sym (fresh_number_above number above), sym (fresh_record_above number above), refl)

pub returns : goal.returns
unfolding held fresh up_from none64
returns c =
    let number = c.args.number in
    let within : c.args.number ≤ 63 = omega (arith, c.if-number-gt63.false) in
    (sym (fresh_number_within number within), sym (fresh_record_within number within), refl)
