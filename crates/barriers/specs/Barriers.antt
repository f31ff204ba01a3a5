-- Document 02, W-204, shorter barriers: a panel that is of either make, or is brought from one to the other, beside one that was of the old make
-- at the same calls (`no_longer` and `stays_or_goes` in proofs/Barriers.antt).
use Rattle.std.specs.Prelude.{ℕ, ◌≤◌, ◌≡◌, ◌⊎◌, List, map, get_or}
use Rattle.rules.specs.Panel.{Make, old_make, Panel}
use Rattle.rules.specs.Results.{Call, defined}
use Rattle.rules.specs.Lists.{Made, ran}

-- the same calls, with the same frames, at panels of the old make
abbrev pub as_old : List Made → List Made
as_old list = ran defined (map (λ (made : Made). (made.at, old_make, made.call)) list)

-- the record with another make and another barrier
abbrev pub with_barrier : Panel → Make → List ℕ → Panel
with_barrier p make barrier =
    record {
      own = p.own;
      time = p.time;
      high = p.high;
      marks = p.marks;
      barrier = barrier;
      waiting = p.waiting;
      floor = p.floor;
      make = make;
    }

-- Whatever frames the calls are given,
pub record NoLonger (old new : Panel) : Type 0 where
  -- the record is that of the old rule, but for its make and barrier;
  pub alike : new ≡ with_barrier old new.make new.barrier
  -- no barrier entry is above that of the old rule;
  pub at_most : (panel : ℕ) → get_or new.barrier panel 0 ≤ get_or old.barrier panel 0
  -- a further call answers the same number and count, and writes the same log records,
  pub number : (call : Call) → (defined new call).number ≡ (defined old call).number
  pub count : (call : Call) → (defined new call).count ≡ (defined old call).count
  pub output : (call : Call) → (defined new call).output ≡ (defined old call).output
  -- and sends no longer frame.
  pub frame : (call : Call) → (defined new call).frame_length ≤ (defined old call).frame_length

-- Where each frame was sent, as demand 3 has it: panel by panel, the barrier entry is that of the old rule, or it is removed.
abbrev pub StaysOrGoes : Panel → Panel → Type 0
StaysOrGoes old new = (panel : ℕ) → (get_or new.barrier panel 0 ≡ get_or old.barrier panel 0) ⊎ (get_or new.barrier panel 0 ≡ 0)
