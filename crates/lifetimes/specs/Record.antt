-- The record that the deadline of a send is taken from.
use Rattle.std.specs.Prelude.{ℕ, []}
use Rattle.rules.specs.Panel.{new_make, Panel}

-- one with this time and high: nothing else of it counts
abbrev pub record_with : ℕ → ℕ → Panel
record_with time high = record { own = 0; time = time; high = high; marks = []; barrier = []; waiting = []; floor = 0; make = new_make }
