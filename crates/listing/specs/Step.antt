-- What one step of the listing promises.
use Rattle.std.specs.Prelude.{ℕ, ◌+◌, ◌≤◌, ◌<◌, ◌≡◌, List, ◌++◌, length, Option, IfSome, is_some}
use Rattle.std.specs.declared.ops.ControlFlow.{ControlFlow}
use Rattle.std.specs.declared.ops.ControlFlow.TheVariants.{Continue, Break}
use Rattle.std.specs.ControlFlow.{continue_value}
use Rattle.bundle.specs.Bundle.{step_at}
use Rattle.rules.specs.Panel.{Panel}
use Rattle.text.specs.declared.Text.{Text}
use Rattle.text.specs.Put.{PutBehind}
use Rattle.listing.specs.declared.Listing.{Listing}
use Rattle.listing.specs.Listing.{State, lines_at, state_after, goes_on}

-- where a step or a part leaves the listing: the panel's record, and what the struct says; Continue where it goes on, Break where it has ended
pub record Reached : Type 0 where
  pub panel : Panel
  pub next : ControlFlow Listing Listing

abbrev pub reached : Panel → ControlFlow Listing Listing → Reached
reached p next = record { panel = p; next = next }

abbrev pub state_at : Panel → Listing → State
state_at p l = record { panel = p; place = l.place; frames = l.frames }

-- the same, whether it goes on or has ended
abbrev pub state_in : Panel → ControlFlow Listing Listing → State
state_in p (Continue l) = state_at p l
state_in p (Break l) = state_at p l

abbrev pub state_of : Reached → State
state_of s = state_in s.panel s.next

-- the place is in the bundle, behind at least as many bytes as frames
pub record Placed (bundle : List ℕ) (place frames : ℕ) : Type 0 where
  pub few : frames ≤ place
  pub within : place ≤ length bundle

-- the bytes that the longest lines of a step have room in: 48 for a frame's, and 112 for each of 33 log records'
abbrev pub step_room : ℕ
step_room = 4096

-- what a step gives: the lines are put, and the listing stands at the state after it; it goes on with a place further on, or ends
pub record SteppedLent (bundle : List ℕ) (given : State) (text : Text) (s : Reached) (after : Text) : Type 0 where
  pub lines : PutBehind text (lines_at bundle given) after
  pub state : state_of s ≡ state_after bundle given
  pub more : is_some (continue_value s.next) ≡ goes_on (step_at bundle given.place)
  pub short : after.at ≤ text.at + step_room
  pub placed : Placed bundle (state_of s).place (state_of s).frames
  pub further : IfSome (continue_value s.next) (λ l. given.place < l.place)

-- ---- of a text of fixed capacity

-- where the listing stands: the panel's record, and what the struct says, or None where it has ended
pub record Standing : Type 0 where
  pub panel : Panel
  pub next : Option Listing

abbrev pub standing : Panel → Option Listing → Standing
standing p next = record { panel = p; next = next }

-- what a step gives: the lines are put, and the listing goes on with a place further on, or ends
pub record Stepped (bundle : List ℕ) (given : State) (text : List ℕ) (s : Standing) (after : List ℕ) : Type 0 where
  pub lines : after ≡ text ++ lines_at bundle given
  pub panel : s.panel ≡ (state_after bundle given).panel
  pub state : IfSome s.next (λ l. state_at s.panel l ≡ state_after bundle given)
  pub more : is_some s.next ≡ goes_on (step_at bundle given.place)
  pub short : length after ≤ length text + step_room
  pub placed : IfSome s.next (λ l. Placed bundle l.place l.frames)
  pub further : IfSome s.next (λ l. given.place < l.place)
