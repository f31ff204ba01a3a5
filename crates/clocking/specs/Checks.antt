-- The checks of a clock call on what they ask for (`clock_checks` of the rules is this). No promise of a public call cites it.
use Rattle.std.specs.Prelude.{ℕ, Bool, List, [], ◌∷◌, ltb}
use Rattle.rules.specs.Sizes.{output_length}

abbrev pub clock_checks_on : Bool → ℕ → ℕ → ℕ → List (Bool × ℕ)
clock_checks_on broken output reading time = (broken, 26) ∷ (ltb output output_length, 10) ∷ (ltb reading time, 25) ∷ []
