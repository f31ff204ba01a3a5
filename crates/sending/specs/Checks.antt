-- The checks of a send on what they ask for (`send_checks` of the rules is this). No promise of a public call cites it.
use Rattle.std.specs.Prelude.{ℕ, Bool, ◌||◌, List, [], ◌∷◌, ltb}
use Rattle.rules.specs.Sizes.{output_length, buffer_length}

abbrev pub send_checks_on : Bool → ℕ → ℕ → ℕ → Bool → List (Bool × ℕ)
send_checks_on broken output buffer payload passes =
    (broken, 26)
    ∷ (ltb output output_length || ltb buffer buffer_length, 10)
    ∷ (ltb 32 payload, 9)
    ∷ (passes, 24)
    ∷ []
