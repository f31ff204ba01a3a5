-- The case of traces holds of the definitions: it is computed. Assumes nothing.
use mathlib.Core.Path.{refl}
use Rattle.frame.specs.Reading.{reading}
use Rattle.rules.specs.Panel.{fresh}
use Rattle.rules.specs.FarAheadCases.{far_frame1, far_frame2}
use Rattle.rules.specs.BenchCases.{frame1, frame2, queue}
use Rattle.rules.proofs.BenchCases.{calls_opened}
use Rattle.visits.specs.Visiting.{entries_from, up_to_unmet, trace_checks, trace}
use Rattle.visits.specs.TraceCases.{EachShown, case_trace}

-- Of every look of the case, what the case shows is what documents 01 and 02 define.
pub trace_case : EachShown case_trace
unfolding calls_opened fresh reading entries_from up_to_unmet trace_checks trace frame1 frame2 far_frame1 far_frame2 queue case_trace
trace_case = refl
