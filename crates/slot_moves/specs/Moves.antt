-- What the function that moves frames up ensures.
use Rattle.std.specs.Prelude.{ℕ, ◌<◌, ◌≡◌, List, get_or}
use Rattle.slots.specs.Slots.{Slots, frame_at}

-- the first slots hold the frames of the slots listed
pub record Gathered (before places : List ℕ) (count : ℕ) (after : List ℕ) : Type 0 where
  pub frames : (k : ℕ) → k < count → frame_at after k ≡ frame_at before (get_or places k 0)
  pub size : Slots after
