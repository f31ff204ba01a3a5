-- What one part of the listing promises, and the parts one after another.
use Rattle.std.specs.Prelude.{ℕ, suc, ◌+◌, ◌≤◌, ◌<◌, ◌≡◌, List, [], ◌++◌, length, take, Option, Some, None, IfSome}
use Rattle.std.specs.declared.ops.ControlFlow.{ControlFlow}
use Rattle.std.specs.declared.ops.ControlFlow.TheVariants.{Continue, Break}
use Rattle.std.specs.ControlFlow.{continue_value}
use Rattle.rules.specs.Panel.{Panel}
use Rattle.text.specs.declared.Text.{Text}
use Rattle.text.specs.Put.{PutBehind}
use Rattle.listing.specs.declared.Listing.{Listing}
use Rattle.listing.specs.Listing.{State, start, lines_from}
use Rattle.listing.specs.Step.{Standing, standing, Reached, reached, state_at, state_of, step_room, Placed}

-- what is left of the listing where it stands
abbrev pub left_in : List ℕ → Panel → ControlFlow Listing Listing → List ℕ
left_in bundle p (Break l) = []
left_in bundle p (Continue l) = lines_from (suc (length bundle)) bundle (state_at p l)

abbrev pub left_of : List ℕ → Reached → List ℕ
left_of bundle s = left_in bundle s.panel s.next

-- the part that was put: the buffer up to the place behind it
abbrev pub part_in : Text → List ℕ
part_in text = take text.at text.buffer.now

-- a text at the start of its buffer
abbrev pub at_start : Text → Text
at_start text = record { buffer = text.buffer; at = 0 }

-- what a part gives: it stands at the start of the buffer, and with what is left then it is what was left before; it ends only where the
-- listing ends, or too little room is left for a step; in a buffer with room for a step the place moves on, unless the listing ends
pub record PartPutLent (bundle : List ℕ) (given : State) (text : Text) (s : Reached) (after : Text) : Type 0 where
  pub put : PutBehind (at_start text) (part_in after) after
  pub lines : lines_from (suc (length bundle)) bundle given ≡ part_in after ++ left_of bundle s
  pub full : IfSome (continue_value s.next) (λ _. length text.buffer.now < after.at + step_room)
  pub further : IfSome (continue_value s.next) (λ l. step_room ≤ length text.buffer.now → given.place < l.place)
  pub placed : Placed bundle (state_of s).place (state_of s).frames

-- the parts put one after another, from the start of the listing on, joined; and where the listing stands then
pub data PartsPutLent (bundle : List ℕ) : List ℕ → Reached → Type 0 where
  no_part : {p : Panel} {l : Listing} → state_at p l ≡ start → PartsPutLent bundle [] (reached p (Continue l))
  one_more : {parts : List ℕ} {p : Panel} {l : Listing} {text : Text} {s : Reached} {after : Text} → PartsPutLent bundle parts (reached p (Continue l))
      → PartPutLent bundle (state_at p l) text s after
      → PartsPutLent bundle (parts ++ part_in after) s

-- ---- of a text of fixed capacity

-- what is left of the listing where it stands
abbrev pub left_from : List ℕ → Panel → Option Listing → List ℕ
left_from bundle p None = []
left_from bundle p (Some l) = lines_from (suc (length bundle)) bundle (state_at p l)

abbrev pub lines_left : List ℕ → Standing → List ℕ
lines_left bundle s = left_from bundle s.panel s.next

-- what a part gives, in a text of that capacity: with what is left then it is what was left before; it ends only where the listing ends, or too
-- little room is left for a step; in a text with room for a step the place moves on, unless the listing ends
pub record PartPut (bundle : List ℕ) (given : State) (capacity : ℕ) (s : Standing) (part : List ℕ) : Type 0 where
  pub lines : lines_from (suc (length bundle)) bundle given ≡ part ++ lines_left bundle s
  pub full : IfSome s.next (λ _. capacity < length part + step_room)
  pub further : IfSome s.next (λ l. step_room ≤ capacity → given.place < l.place)
  pub placed : IfSome s.next (λ l. Placed bundle l.place l.frames)

-- the parts put one after another, from the start of the listing on, joined; and where the listing stands then
pub data PartsPut (bundle : List ℕ) : List ℕ → Standing → Type 0 where
  no_part : {p : Panel} {l : Listing} → state_at p l ≡ start → PartsPut bundle [] (standing p (Some l))
  one_more : {parts : List ℕ} {p : Panel} {l : Listing} {capacity : ℕ} {s : Standing} {part : List ℕ} → PartsPut bundle parts (standing p (Some l))
      → PartPut bundle (state_at p l) capacity s part
      → PartsPut bundle (parts ++ part) s
