-- The cases of W-206 hold of the definitions: each is computed. Assumes nothing.
use mathlib.Core.Path.{refl}
use Rattle.rules.specs.Cases.{Holds, finished, ◌and◌, EachHolds}
use Rattle.rules.specs.BenchCases.{frame1, frame2}
use Rattle.rules.proofs.BenchCases.{calls_opened}
use Rattle.arrivals.specs.ArrivalCases.{empty_from, case_clock_between, case_nobody_sent, answers, answers_named, answers_logged, case23, case_not_reached, case_short_output, case_make_changed, arrival_cases}

cases_opened : Unit {0}
unfolding calls_opened frame1 frame2 empty_from answers answers_named answers_logged case_clock_between case_nobody_sent case23 case_not_reached case_short_output case_make_changed
cases_opened = tt

clock-between : Holds case_clock_between
unfolding cases_opened
clock-between = refl

nobody_sent : Holds case_nobody_sent
unfolding cases_opened
nobody_sent = refl

with_23 : Holds case23
unfolding cases_opened
with_23 = refl

not_reached : Holds case_not_reached
unfolding cases_opened
not_reached = refl

short_output : Holds case_short_output
unfolding cases_opened
short_output = refl

make_changed : Holds case_make_changed
unfolding cases_opened
make_changed = refl

pub arrival_cases_lem : EachHolds arrival_cases
arrival_cases_lem = clock-between and nobody_sent and with_23 and not_reached and short_output and make_changed and finished
