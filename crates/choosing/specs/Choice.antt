-- The record that ready is asked of, and what the choice finds.
use Rattle.std.specs.Prelude.{ℕ, Bool, true, cond, ◌&&◌, ◌||◌, List, [], get_or, ltb, eqb, Option, Some, None}
use Rattle.std.proofs.Math.Option.{Option as Chosen, none, some}
use Rattle.frame.specs.Message.{Message, message_of}
use Rattle.rules.specs.Panel.{new_make, Panel}
use Rattle.choosing.specs.declared.First.{First}

-- a record of these marks, this time and this floor, which is all that ready asks for
abbrev pub asking : List ℕ → ℕ → ℕ → Panel
asking marks time floor =
    record { own = 0; time = time; high = 0; marks = marks; barrier = []; waiting = []; floor = floor; make = new_make }

-- ---- the choice

-- what is found where that place of the list is chosen
abbrev pub first_in : List Message → Chosen ℕ → Option First
first_in ms none = None
first_in ms (some place) =
    let m = get_or ms place (message_of 0 0 [] []) in
    Some (record { place = place; deadline = m.deadline; source = m.source })

-- a message goes before the one found: it has a lower deadline, then a lower source
abbrev pub goes_before : ℕ → ℕ → First → Bool
goes_before deadline source first = ltb deadline first.deadline || eqb deadline first.deadline && ltb source first.source

-- it would be the first: none was found, or it goes before that one
abbrev pub goes_first : Message → Option First → Bool
goes_first m None = true
goes_first m (Some first) = goes_before m.deadline m.source first

-- a message at a place against the first among the earlier ones: it is the first, where it is ready and would be
abbrev pub considered : Bool → ℕ → Message → Option First → Option First
considered ready place m first =
    cond (goes_first m first && ready) (Some (record { place = place; deadline = m.deadline; source = m.source })) first
