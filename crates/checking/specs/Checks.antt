-- What the functions of the checks promise. No promise of a public call cites it.
use Rattle.std.specs.Prelude.{ℕ, ◌≡◌, Bool, cond, not, ◌&&◌, List, ◌∷◌, leb, ltb, take}
use Rattle.frame.specs.Message.{Message}
use Rattle.frame.specs.Reading.{width_in, checks, refusal_of}
use Rattle.rules.specs.Sizes.{width, output_length}
use Rattle.rules.specs.Panel.{Panel}
use Rattle.rules.specs.Refusals.{message_checks}

-- the checks before those of the message that was read, on what they ask for (`receive_checks` of the rules is these and those)
abbrev pub frame_checks_on : Bool → ℕ → List ℕ → List (Bool × ℕ)
frame_checks_on broken output bytes = (broken, 26) ∷ (ltb output output_length, 10) ∷ checks (width_in bytes) bytes

-- bytes that read as a message do so in version 2
abbrev pub NotNarrow : List ℕ → Type 0
NotNarrow bytes = refusal_of bytes ≡ 0 → width_in bytes ≡ width

-- the checks of a message but the last: 20, 21, 32, 22
abbrev pub early_checks : Panel → Message → List (Bool × ℕ)
early_checks p m = take 4 (message_checks p m)

-- the last: 23 where so many are waiting and the message is not ready, or 0
abbrev pub full_number : ℕ → Bool → ℕ
full_number waiting ready = cond (leb 32 waiting && not ready) 23 0
