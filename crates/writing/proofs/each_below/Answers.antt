-- `writing::each_below` meets its contract: `all` answers the test on every number. Assumes nothing.
use Rattle.std.proofs.Common.{ℕ, ltb, ◌∙◌, rules, tests}
use Rattle.std.proofs.lemmas.Iterator.{YieldsList-from_slice}
use Rattle.std.proofs.lemmas.Iterator.Search.{all_from_yields_List}
use Rattle.writing.proofs.Tests.{list_all_below}
use Rattle.writing.proofs.each_below.Goals as goal

pub returns : goal.returns
returns c =
    all_from_yields_List (λ (n : ℕ). ltb n c.args.limit) _ _ _ c.all.ensures.ran (YieldsList-from_slice c.args.numbers.now cc) (λ x b q k. search (rules, tests))
    ∙ list_all_below c.args.limit c.args.numbers.now
