-- Demand 3, as it is proved (`demand_3` and `every_list` in proofs/Theorems.antt). `list` is any list of calls, refused ones included, on
-- fresh panels with different numbers, old and new in any mixture, in which each receive is given a frame that an earlier send of the list
-- wrote, or is refused.
use Rattle.std.specs.Prelude.{ℕ, ◌≡◌, ◌↔◌, ◌⊎◌, List, [], ◌∷◌}
use Rattle.rules.specs.Panel.{Name}
use Rattle.rules.specs.Lists.{◌is_in◌, Made, sent_at, log_at, sends, Before, AllPromised}
use Rattle.rules.specs.Lapsing.{taken_at, LapsedAt}

-- x stands ahead of y
abbrev pub Ahead : Name → Name → List Name → Type 0
Ahead x y [] = ⊥
Ahead x y (z ∷ log) = ((x ≡ z) × (y is_in log)) ⊎ Ahead x y log

-- Take any panel, and any message sent or taken there that has not lapsed there. It stands in that panel's log exactly when every message
-- before it in cause stands in that log or has lapsed there.
abbrev pub ExactlyWhen : List Made → Type 0
ExactlyWhen list =
    (panel : ℕ) (n : Name) → (n is_in sent_at panel list) ⊎ (n is_in taken_at panel list) → ¬ LapsedAt panel list n
    → (n is_in log_at panel list) ↔ ((x : Name) → Before (sends list) x n → (x is_in log_at panel list) ⊎ LapsedAt panel list x)

-- No panel's log holds a message twice,
abbrev pub NoneTwice : List Made → Type 0
NoneTwice list = (panel : ℕ) (x : Name) → ¬ Ahead x x (log_at panel list)

-- or ahead of one that is before it in cause.
abbrev pub NoneAhead : List Made → Type 0
NoneAhead list = (panel : ℕ) (x y : Name) → Ahead x y (log_at panel list) → ¬ Before (sends list) y x

pub record Demand3 (list : List Made) : Type 0 where
  -- Every call's answer, the record it gave back and all bytes of its lent buffers are as documents 01 and 02 define them for
  -- the make of its panel.
  pub as_defined : AllPromised list
  -- what it says of the logs
  pub exactly_when : ExactlyWhen list
  pub none_twice : NoneTwice list
  pub none_ahead : NoneAhead list
