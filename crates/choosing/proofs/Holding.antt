-- Laws of the messages that the slots listed hold. Assumes nothing.
use Prim.Native.Nat.{ℕ, suc, ◌≤◌, ◌<◌}
use native.Mathlib.Omega.{arith}
use mathlib.Core.Path.{◌≡◌, ap, ◌∙◌}
use mathlib.Core.List.{List}
use lib.ListN.{length, get_or, take, get_or-map}
use lib.Seq.{length-take-le, get_or-take}
use Rattle.std.specs.Prelude.{Option}
use Rattle.frame.specs.Message.{Message}
use Rattle.frame.specs.Reading.{message_in}
use Rattle.rules.specs.Sizes.{width}
use Rattle.rules.specs.Panel.{Panel, ready}
use Rattle.rules.proofs.Choice.{get_or_default}
use Rattle.slots.specs.Slots.{Listed, frame_at, carried, held}
use Rattle.slots.proofs.Held.{carried_reads, length-held}
use Rattle.choosing.specs.Choice.{considered}
use Rattle.choosing.specs.declared.First.{First}
use Rattle.choosing.proofs.Choosing.{first_below, first_below-suc}

-- as many as are listed
pub length_listed : (slots : List ℕ) (count : ℕ) (places : List ℕ) → count ≤ length places → length (held slots (take count places)) ≡ count
length_listed slots count places h = length-held slots (take count places) ∙ length-take-le count places h

get_or-held : (slots ws : List ℕ) (k : ℕ) (other : Message) → k < length ws → get_or (held slots ws) k other ≡ carried (frame_at slots (get_or ws k 0))
unfolding held
get_or-held slots ws k other h =
    get_or_default (held slots ws) other (carried (frame_at slots 0)) k (omega (arith, length-held slots ws))
    ∙ get_or-map (λ slot. carried (frame_at slots slot)) ws k 0

-- the message at a place of the list is that of the frame in the slot listed there
pub held_at : (slots : List ℕ) (count : ℕ) (places : List ℕ) (k : ℕ) (other : Message) → Listed slots count places → count ≤ length places → k < count
    → get_or (held slots (take count places)) k other ≡ message_in width (frame_at slots (get_or places k 0))
held_at slots count places k other listed h lt =
    get_or-held slots (take count places) k other (omega (arith, length-take-le count places h))
    ∙ ap (λ (slot : ℕ). carried (frame_at slots slot)) (get_or-take count places k 0 lt)
    ∙ carried_reads (frame_at slots (get_or places k 0)) (listed.reads k lt)

-- the message at a place of the list, against the choice among those before it
module _ (p : Panel) (slots : List ℕ) (count : ℕ) (places : List ℕ) (place : ℕ) where
  abbrev ms : List Message
  ms = held slots (take count places)

  abbrev m : Message
  m = message_in width (frame_at slots (get_or places place 0))

  pub first_below_listed : Listed slots count places → count ≤ length places → place < count → (first next : Option First)
      → first ≡ first_below p ms place → next ≡ considered (ready p m) place m first → next ≡ first_below p ms (suc place)
  first_below_listed listed h lt first next before after =
      after
      ∙ ap (considered (ready p m) place m) before
      ∙ first_below-suc p ms place m (omega (arith, length_listed slots count places h)) (held_at slots count places place m listed h lt)
