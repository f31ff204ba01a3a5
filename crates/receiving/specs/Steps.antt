-- What the private functions of a receive promise. No promise of a public call cites it.
use Rattle.std.specs.Prelude.{ℕ, ◌+◌, ◌≡◌, cond, List, [], ◌∷◌, ◌++◌}
use Rattle.frame.specs.Message.{Message}
use Rattle.rules.specs.Panel.{Panel as Record, ready}
use Rattle.rules.specs.Handing.{hand}
use Rattle.rules.specs.Settling.{with_waiting}
use Rattle.slots.specs.Slots.{Listed}
use Rattle.settling.specs.Record.{Stage, panel_at, Logged}

-- the record that has taken a message, and what was handed: that message, if it was ready
abbrev pub taking : Record → Message → Record
taking p m = cond (ready p m) (hand p m) (with_waiting p (p.waiting ++ (m ∷ [])))

abbrev pub handed_at_once : Record → Message → List Message
handed_at_once p m = cond (ready p m) (m ∷ []) []

-- a message was taken
pub record Taken (m : Message) (slots : List ℕ) (before : Stage) (slots' : List ℕ) (after : Stage) : Type 0 where
  pub panel : panel_at slots' after ≡ taking (panel_at slots before) m
  pub logged : Logged (handed_at_once (panel_at slots before) m) before after
  pub one_more : after.left.handed + after.left.waiting ≡ before.left.handed + before.left.waiting + 1
  pub listed : Listed slots' after.left.waiting after.places
