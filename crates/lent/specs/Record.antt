-- The record in the parts that it is lent in.
use Rattle.std.specs.Prelude.{◌≡◌, ℕ, List}
use Rattle.rules.specs.Panel.{Panel as Record, new_make}
use Rattle.slots.specs.Slots.{held, first_slots}
use Rattle.lent.specs.declared.State.{State}
use Rattle.lent.specs.declared.Waiting.{Waiting}
use Rattle.lent.specs.declared.View.{View}

-- The parts of a record, in the order in which every call has them: four numbers, marks, barrier, the slots, whose first `count` hold the
-- waiting messages, and the floor.
pub record Parts : Type 0 where
  pub own : ℕ
  pub time : ℕ
  pub high : ℕ
  pub count : ℕ
  pub marks : List ℕ
  pub barrier : List ℕ
  pub slots : List ℕ
  pub floor : ℕ

abbrev pub parts : ℕ → ℕ → ℕ → ℕ → List ℕ → List ℕ → List ℕ → ℕ → Parts
parts own time high count marks barrier slots floor =
    record { own = own; time = time; high = high; count = count; marks = marks; barrier = barrier; slots = slots; floor = floor }

-- the record that the parts hold: the module's panels are of the new make
abbrev pub record_of : Parts → Record
record_of p =
    record {
      own = p.own;
      time = p.time;
      high = p.high;
      marks = p.marks;
      barrier = p.barrier;
      waiting = held p.slots (first_slots p.count);
      floor = p.floor;
      make = new_make;
    }

-- what a panel knows, but for the messages that wait
pub record Known : Type 0 where
  pub own : ℕ
  pub time : ℕ
  pub high : ℕ
  pub marks : List ℕ
  pub barrier : List ℕ
  pub floor : ℕ

-- what stands behind the references of a state
abbrev pub known : State → Known
known s = record { own = s.own; time = s.time; high = s.high.now; marks = s.marks.now; barrier = s.barrier.now; floor = s.floor.now }

abbrev pub parts_with : Known → ℕ → List ℕ → Parts
parts_with k count slots = parts k.own k.time k.high count k.marks k.barrier slots k.floor

-- the parts behind the references: of a record that a call may change, and of one that it only reads
abbrev pub parts_of : State → Waiting → Parts
parts_of s w = parts_with (known s) w.count.now w.slots.now

abbrev pub parts_in : View → Parts
parts_in p = parts p.own p.time p.high p.count p.marks.now p.barrier.now p.slots.now p.floor

-- each reference still is the one that was lent: what stands behind it at the end is the caller's
abbrev pub SameReferences : State → State → Type 0
SameReferences before after =
    (after.high.ghost_name ≡ before.high.ghost_name)
    × (after.marks.ghost_name ≡ before.marks.ghost_name)
    × (after.barrier.ghost_name ≡ before.barrier.ghost_name)
    × (after.floor.ghost_name ≡ before.floor.ghost_name)

-- and own number and time, which stand in the state itself, are as they were
abbrev pub SameState : State → State → Type 0
SameState before after = (after.own ≡ before.own) × (after.time ≡ before.time) × SameReferences before after

abbrev pub SameWaiting : Waiting → Waiting → Type 0
SameWaiting before after = (after.count.ghost_name ≡ before.count.ghost_name) × (after.slots.ghost_name ≡ before.slots.ghost_name)
