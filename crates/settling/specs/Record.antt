-- The record while it settles, and what the functions on it ensure.
use Rattle.std.specs.Prelude.{ℕ, ◌+◌, ◌*◌, ◌<◌, ◌≡◌, cond, List, length, get_or, take, ltb}
use Rattle.numbers.specs.Buffer.{over}
use Rattle.frame.specs.Message.{Message}
use Rattle.rules.specs.Sizes.{log_record_length}
use Rattle.rules.specs.Panel.{new_make, Panel}
use Rattle.rules.specs.Handing.{log_records}
use Rattle.rules.specs.Settling.{settle}
use Rattle.slots.specs.Slots.{Listed, held}
use Rattle.slots.specs.declared.Places.{Places}
use Rattle.lent.specs.declared.State.{State}
use Rattle.lent.specs.Record.{Known, known}
use Rattle.handing.specs.declared.Log.{Log}

-- how far settling has come: the numbers of the record, how many messages still wait, and how many log records have been written
pub record Settling : Type 0 where
  pub own : ℕ
  pub time : ℕ
  pub high : ℕ
  pub waiting : ℕ
  pub handed : ℕ
  pub floor : ℕ

-- where settling stands: what is left, and what is lent beside the slots
pub record Stage : Type 0 where
  pub left : Settling
  pub places : List ℕ
  pub marks : List ℕ
  pub barrier : List ℕ
  pub output : List ℕ

-- what is left, of these numbers
abbrev pub left : ℕ → ℕ → ℕ → ℕ → ℕ → ℕ → Settling
left own time high waiting handed floor = record { own = own; time = time; high = high; waiting = waiting; handed = handed; floor = floor }

abbrev pub stage : Settling → List ℕ → List ℕ → List ℕ → List ℕ → Stage
stage left places marks barrier output = record { left = left; places = places; marks = marks; barrier = barrier; output = output }

-- where settling stands, with what a panel knows, the places of those that wait, and the log
abbrev pub stage_at : Known → ℕ → List ℕ → ℕ → List ℕ → Stage
stage_at k waiting places handed output = stage (left k.own k.time k.high waiting handed k.floor) places k.marks k.barrier output

abbrev pub stage_of : State → Places → Log → Stage
stage_of state list log = stage_at (known state) list.count list.slots log.count log.output.now

-- the record that is left: the messages in the slots listed are waiting
abbrev pub panel_at : List ℕ → Stage → Panel
panel_at slots s =
    record {
      own = s.left.own;
      time = s.left.time;
      high = s.left.high;
      marks = s.marks;
      barrier = s.barrier;
      waiting = held slots (take s.left.waiting s.places);
      floor = s.left.floor;
      make = new_make;
    }

-- the place in the output behind the log records written
abbrev pub output_place : Settling → ℕ
output_place left = left.handed * log_record_length

-- a place has left the list, and those behind it have moved up by one
pub record Leaves (place : ℕ) (before after : Places) : Type 0 where
  pub moves : (k : ℕ) → k + 1 < before.count → get_or after.slots k 0 ≡ get_or before.slots (cond (ltb k place) k (k + 1)) 0
  pub one : after.count + 1 ≡ before.count
  pub long : length after.slots ≡ length before.slots

-- these messages were handed: their log records stand in the output, behind those before, and are counted
pub record Logged (ms : List Message) (before after : Stage) : Type 0 where
  pub output : after.output ≡ over before.output (output_place before.left) (log_records ms)
  pub handed : after.left.handed ≡ before.left.handed + length ms

-- the record has settled
pub record Settles (slots : List ℕ) (before after : Stage) : Type 0 where
  pub panel : panel_at slots after ≡ (settle (panel_at slots before)).panel
  pub logged : Logged (settle (panel_at slots before)).handed before after
  pub listed : Listed slots after.left.waiting after.places
  pub long : length after.places ≡ length before.places
