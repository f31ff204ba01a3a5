-- Document 02, W-207: what is shown of the floor and of set-back calls beside demand 3 (`floor_counted`, `floor_meaning`, `floor_idle` and
-- `setting_back_lem` in proofs/Floors.antt, `no_floor_needed` in proofs/NoFloor.antt, `some_without_floor` in proofs/SomeWithout.antt).
use Rattle.std.specs.Prelude.{ℕ, min, max, ◌≤◌, ◌<◌, ◌≡◌, ◌⊎◌, ◌↔◌, Bool, true, false, cond, not, ◌&&◌, List, [], ◌∷◌}
use Rattle.rules.specs.Panel.{Name, Make, Panel}
use Rattle.rules.specs.Calls.{with_time}
use Rattle.rules.specs.Results.{Call, send, receive, clock, set_back, Result, defined}
use Rattle.rules.specs.Lists.{◌is_in◌, Made, on, given_to, log_at, time_at, sends, Before}
use Rattle.rules.specs.Lapsing.{floor_at, LapsedAt}
use Rattle.rules.specs.Demand3.{ExactlyWhen, NoneTwice, NoneAhead}
use Rattle.rules.specs.Cases.{with_floor}

-- ---- at any panel

pub record SettingBack (p : Panel) : Type 0 where
  -- "Sets the time to the lower of its own and the reading", and everything else is as it was,
  pub time_alone : (reading : ℕ) → (defined p (set_back reading)).number ≡ 0 → (defined p (set_back reading)).panel ≡ with_time p (min p.time reading)
  -- "hands … nothing",
  pub hands_nothing : (reading : ℕ) → (defined p (set_back reading)).count ≡ 0
  -- and answers no number but 26.
  pub only_26 : (reading : ℕ) → ((defined p (set_back reading)).number ≡ 0) ⊎ ((defined p (set_back reading)).number ≡ 26)
  -- No call lowers the floor.
  pub floor_stays : (call : Call) → p.floor ≤ (defined p call).panel.floor

-- ---- after every list

-- The floor is the largest deadline of a message that the log went without: one before a message of the log, and not in it. 0 means none.
pub record FloorMeaning (list : List Made) (panel : ℕ) : Type 0 where
  pub at_least : (x n : Name) → n is_in log_at panel list → Before (sends list) x n → (x is_in log_at panel list) ⊎ (x.deadline ≤ floor_at panel list)
  pub largest : 0 < floor_at panel list
      → (x n : Name) × (x.deadline ≡ floor_at panel list) × (n is_in log_at panel list) × Before (sends list) x n × ¬ (x is_in log_at panel list)

-- is the call a set-back call?
abbrev pub is_set_back : Call → Bool
is_set_back (send payload lifetime output buffer) = false
is_set_back (receive bytes output) = false
is_set_back (clock time output) = false
is_set_back (set_back reading) = true

-- no set-back call was made there
unfoldable pub never_set_back : ℕ → List Made → Bool
never_set_back panel [] = true
never_set_back panel (made ∷ earlier) = not (on panel made && is_set_back made.call) && never_set_back panel earlier

-- Where no set-back call was made, the floor decides nothing: a message has lapsed there exactly if its deadline is below the time, as in document
-- 01. (No message has deadline 0.)
abbrev pub Idle : List Made → ℕ → Type 0
Idle list panel = (n : Name) → 0 < n.deadline → LapsedAt panel list n ↔ (n.deadline < time_at panel list)

-- ---- a panel without a floor

-- a floor that decides nothing: it is below the time, or 0
abbrev pub IdleFloor : ℕ → ℕ → Type 0
IdleFloor floor time = floor < max time 1

-- Two results that differ in nothing but the floor of the record, and both floors decide nothing. (So it is with every call but a set-back call,
-- at two records of which that holds: `no_floor_needed`.)
pub record AlikeButFloor (one other : Result) : Type 0 where
  pub number : other.number ≡ one.number
  pub panel : other.panel ≡ with_floor other.panel.floor one.panel
  pub count : other.count ≡ one.count
  pub output : other.output ≡ one.output
  pub frame_length : other.frame_length ≡ one.frame_length
  pub buffer : other.buffer ≡ one.buffer
  pub idle : IdleFloor one.panel.floor one.panel.time
  pub idle_too : IdleFloor other.panel.floor other.panel.time

-- ---- a farm in which some panels keep no floor, as those of versions before it, and are never set back

-- the record that a panel works on: where it keeps no floor, one of floor 0 at each call
abbrev pub kept_by : Bool → Panel → Panel
kept_by keeps p = cond keeps p (with_floor 0 p)

-- The list that comes of these calls, as `ran` has it, where `keeps` says of each panel whether it keeps a floor.
abbrev pub ran_where : (ℕ → Bool) → List (ℕ × Make × Call) → List Made
ran_where keeps [] = []
ran_where keeps ((panel, make, call) ∷ earlier) =
    let made = ran_where keeps earlier in
    record { at = panel; make = make; call = call; result = defined (kept_by (keeps panel) (given_to panel make made)) call } ∷ made

-- What demand 3 says of the logs. The floor in its words is counted from the list, also at panels that keep none. (So it is with every list of
-- which `Lawful` holds, and in which no panel that keeps none is set back: `some_without_floor`.)
pub record LogsInOrder (list : List Made) : Type 0 where
  pub exactly_when : ExactlyWhen list
  pub none_twice : NoneTwice list
  pub none_ahead : NoneAhead list
