-- A list of calls in a farm is one that demand 3 speaks of: each call gave what it promises. Assumes nothing.
use mathlib.Core.Path.{subst}
use mathlib.Core.List.{List, [], ◌∷◌}
use Rattle.rules.specs.Panel.{Panel}
use Rattle.rules.specs.Results.{Promised}
use Rattle.rules.specs.Lists.{AllPromised}
use Rattle.lent.specs.Record.{record_of}
use Rattle.demands.specs.Runs.{Run, result_of}
use Rattle.demands.specs.Functions.{Ran, panel_send_parts, panel_beacon_parts, panel_receive_parts, panel_clock_parts, panel_set_back_parts, panel_send, panel_beacon, panel_receive, panel_clock, panel_set_back}
use Rattle.demands.specs.Lists.{FarmCall, module_call, other_call, farm, Follows}

-- a call gave what it promises
abbrev Kept : Run → Type 0
Kept run = Promised (record_of run.given) run.call (result_of run)

-- that is the first clause of each function's promise
ran_kept : (run : Run) → Ran run → Kept run
ran_kept run (panel_send_parts (κs, given, answer, ended, learnt, made)) = subst Kept made learnt.0
ran_kept run (panel_beacon_parts (κs, given, answer, ended, learnt, made)) = subst Kept made learnt.0
ran_kept run (panel_receive_parts (κs, given, answer, ended, learnt, made)) = subst Kept made learnt.0
ran_kept run (panel_clock_parts (κs, given, answer, ended, learnt, made)) = subst Kept made learnt.0
ran_kept run (panel_set_back_parts (κs, given, answer, ended, learnt, made)) = subst Kept made learnt.0
ran_kept run (panel_send (κs, given, answer, ended, learnt, made)) = subst Kept made learnt.0
ran_kept run (panel_beacon (κs, given, answer, ended, learnt, made)) = subst Kept made learnt.0
ran_kept run (panel_receive (κs, given, answer, ended, learnt, made)) = subst Kept made learnt.0
ran_kept run (panel_clock (κs, given, answer, ended, learnt, made)) = subst Kept made learnt.0
ran_kept run (panel_set_back (κs, given, answer, ended, learnt, made)) = subst Kept made learnt.0

pub follows_promised : (list : List FarmCall) → Follows list → AllPromised (farm list)
follows_promised [] follows = tt
follows_promised (module_call run ∷ earlier) (given, ran, rest) =
    (subst (λ (p : Panel). Promised p run.call (result_of run)) given (ran_kept run ran), follows_promised earlier rest)
follows_promised (other_call made ∷ earlier) (promise, rest) = (promise, follows_promised earlier rest)
