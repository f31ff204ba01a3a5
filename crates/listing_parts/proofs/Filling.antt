-- A part of the listing, put step after step, and what is left then. Assumes nothing.
use mathlib.Core.Path.{◌≡◌, refl, sym, ap, ◌∙◌}
use mathlib.Core.Bool.{Bool, cond}
use mathlib.Core.List.{List, [], ◌++◌, append_assoc}
use Prim.Native.Nat.{ℕ, suc, ◌+◌, ◌≤◌, ◌<◌}
use native.Mathlib.Omega.{arith}
use lib.ListN.{length}
use Rattle.std.specs.Prelude.{Option, Some, None}
use Rattle.rules.specs.Panel.{Panel}
use Rattle.listing.specs.declared.Listing.{Listing}
use Rattle.listing.specs.Listing.{State, lines_at, state_after, lines_from}
use Rattle.listing.specs.Step.{standing, state_at, step_room, Placed, Stepped}
use Rattle.listing_parts.specs.Part.{left_from, PartPut}
use Rattle.listing.proofs.Theorems.{lines_from_enough}

-- before a step: its lines, and what is left after it
module _ {bundle : List ℕ} {given : State} {text after : List ℕ} {p : Panel} where
  left_step : (next : Option Listing) → Stepped bundle given text (standing p next) after
      → lines_from (suc (length bundle)) bundle given ≡ lines_at bundle given ++ left_from bundle p next
  unfolding lines_from
  left_step None stepped =
      ap (λ (b : Bool). lines_at bundle given ++ cond b (lines_from (length bundle) bundle (state_after bundle given)) []) (sym stepped.more)
  left_step (Some l) stepped =
      ap (λ (b : Bool). lines_at bundle given ++ cond b (lines_from (length bundle) bundle (state_after bundle given)) []) (sym stepped.more)
      ∙ ap (λ (s : State). lines_at bundle given ++ lines_from (length bundle) bundle s) (sym stepped.state)
      ∙ ap (λ (rest : List ℕ). lines_at bundle given ++ rest)
      (sym (lines_from_enough (length bundle) bundle (state_at p l) stepped.placed.within (omega (arith, stepped.further))))

-- the lines put so far, and where the listing stands then
pub record Filling (bundle : List ℕ) (given : State) (p : Panel) (l : Listing) (text : List ℕ) : Type 0 where
  pub left : lines_from (suc (length bundle)) bundle given ≡ text ++ lines_from (suc (length bundle)) bundle (state_at p l)
  pub onward : given.place ≤ l.place
  pub further : 0 < length text → given.place < l.place
  pub placed : Placed bundle l.place l.frames

-- none yet
pub filling_none : {bundle text : List ℕ} {p : Panel} {l : Listing} → text ≡ [] → Placed bundle l.place l.frames → Filling bundle (state_at p l) p l text
filling_none none placed = record { left = rw none refl; onward = omega arith; further = rw none (λ some. absurd (omega arith)); placed = placed }

module _ {bundle : List ℕ} {given : State} {p q : Panel} {l : Listing} {text after : List ℕ} (filling : Filling bundle given p l text) where
  -- what was left is the lines so far, those of one step more, and what is left then
  left_more : (next : Option Listing) → Stepped bundle (state_at p l) text (standing q next) after
      → lines_from (suc (length bundle)) bundle given ≡ after ++ left_from bundle q next
  left_more next stepped =
      filling.left
      ∙ ap (λ (rest : List ℕ). text ++ rest) (left_step next stepped)
      ∙ sym (append_assoc text (lines_at bundle (state_at p l)) (left_from bundle q next))
      ∙ ap (λ (lines : List ℕ). lines ++ left_from bundle q next) (sym stepped.lines)

  -- the listing goes on after it
  pub filling_step : {m : Listing} → Stepped bundle (state_at p l) text (standing q (Some m)) after → Filling bundle given q m after
  filling_step {m} stepped =
      record {
        left = left_more (Some m) stepped;
        onward = omega (arith, filling.onward, stepped.further);
        further = λ _. omega (arith, filling.onward, stepped.further);
        placed = stepped.placed;
      }

  -- or ends
  pub filled_last : {capacity : ℕ} → Stepped bundle (state_at p l) text (standing q None) after → PartPut bundle given capacity (standing q None) after
  filled_last stepped = record { lines = left_more None stepped; full = tt; further = tt; placed = tt }

-- or no room is left for one more
pub filled : {bundle : List ℕ} {given : State} {p : Panel} {l : Listing} {text : List ℕ} {capacity : ℕ} → Filling bundle given p l text
    → capacity < length text + step_room
    → PartPut bundle given capacity (standing p (Some l)) text
filled filling full = record { lines = filling.left; full = full; further = λ room. filling.further (omega (arith, full)); placed = filling.placed }
