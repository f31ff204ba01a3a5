-- `panel::panel_fresh` meets its contract: a number other than 0 is 11. Assumes nothing.
use Rattle.std.proofs.Common.{ℕ, ap, ◌∙◌}
use Rattle.parts.specs.declared.answer.Answer.{Answer}
use Rattle.panel.proofs.Fresh.{fresh_refusal}
use Rattle.panel.proofs.panel_fresh.Goals as goal

pub returns-then-number-ne0 : goal.returns-then-number-ne0
returns-then-number-ne0 c =
    let fresh = c.panel_fresh_parts-number.ensures in
    let refused = fresh_refusal c.args.number (λ none. c.if-number-ne0.true (fresh.0 ∙ none)) in
    (ap {B = Answer} (λ (n : ℕ). record { count = 0; length = 0; number = n }) refused, fresh.1)
