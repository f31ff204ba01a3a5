-- Lists of calls in a farm, the latest first: at some panels the module runs, which is of the new make; the others are of any make.
use Rattle.std.specs.Prelude.{◌≡◌, List, [], ◌∷◌, map}
use Rattle.rules.specs.Panel.{new_make}
use Rattle.rules.specs.Results.{Promised}
use Rattle.rules.specs.Lists.{Made, given_to}
use Rattle.lent.specs.Record.{record_of}
use Rattle.demands.specs.Runs.{Run, panel_of, made_of}
use Rattle.demands.specs.Functions.{Ran}

-- One call: of the module; or another, at a panel of whatever make that runs something else.
pub data FarmCall : Type 0 where
  module_call : Run → FarmCall
  other_call : Made → FarmCall

-- as the words of demand 3 speak of it
abbrev pub made_in : FarmCall → Made
made_in (module_call run) = made_of run
made_in (other_call made) = made

abbrev pub farm : List FarmCall → List Made
farm list = map made_in list

-- Each call gets the record that the last call on its panel gave back, at first a fresh one. Of a call of the module is known what a caller
-- learns from the function's own theorem; any other gave what documents 01 and 02 define for its make. (A panel's record may go from one to the
-- other, as when its software is brought up to date.)
abbrev pub Follows : List FarmCall → Type 0
Follows [] = Unit {0}
Follows (module_call run ∷ earlier) = (record_of run.given ≡ given_to (panel_of run) new_make (farm earlier)) × Ran run × Follows earlier
Follows (other_call made ∷ earlier) = Promised (given_to made.at made.make (farm earlier)) made.call made.result × Follows earlier
