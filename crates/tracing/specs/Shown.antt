-- A trace's answer as the rules have it.
use Rattle.visits.specs.Visiting.{Trace as Traced}
use Rattle.tracing.specs.declared.Trace.{Trace}

abbrev pub shown_in : Trace → Traced
shown_in t = record { number = t.number; ready = t.ready; visited = t.visited }
