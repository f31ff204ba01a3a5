-- Document 02, W-202: which entries the test for ready visits, and what a trace shows of a frame at a panel.
use Rattle.std.specs.Prelude.{ℕ, zero, suc, ◌≤◌, ◌≡◌, ◌↔◌, ◌≢◌, Bool, true, false, cond, List, [], ◌∷◌, ◌++◌, length}
use Rattle.std.specs.Int.Count.{ones_in}
use Rattle.frame.specs.Message.{Message, mask_of}
use Rattle.frame.specs.Refusal.{first_of}
use Rattle.frame.specs.Reading.{Reading, message, refused, checks, width_in, message_from, reading_of}
use Rattle.rules.specs.Panel.{Panel, met, ready}
use Rattle.rules.specs.Refusals.{broken, message_checks}

-- ---- the visits

-- an entry: its panel, and the deadline of a message of that panel
pub record Entry : Type 0 where
  pub panel : ℕ
  pub deadline : ℕ

-- those that stand in a list with a number for each panel from one on, or 0 where the panel has none
unfoldable pub entries_from : ℕ → List ℕ → List Entry
entries_from panel [] = []
entries_from panel (zero ∷ es) = entries_from (suc panel) es
entries_from panel (suc e ∷ es) = record { panel = panel; deadline = suc e } ∷ entries_from (suc panel) es

-- "From one set bit to the next, lowest first": the entries of a message, one for each bit of its mask that is set, lowest panel first.
abbrev pub entries_of : Message → List Entry
entries_of m = entries_from 0 m.entries

-- an entry is met
abbrev pub is_met : Panel → Entry → Bool
is_met p e = met p e.panel e.deadline

-- "The set bits up to the first entry that is not met, that one included, or all of them."
unfoldable pub up_to_unmet : Panel → List Entry → List Entry
up_to_unmet p [] = []
up_to_unmet p (e ∷ es) = e ∷ cond (is_met p e) (up_to_unmet p es) []

-- the entries of a message that the test for ready visits, and how many they are
abbrev pub visited : Panel → Message → List Entry
visited p m = up_to_unmet p (entries_of m)

abbrev pub visits : Panel → Message → ℕ
visits p m = length (visited p m)

-- ---- what is shown of them (`visits_counted` of `Visiting`)

-- the last of these entries is met, or there is none
unfoldable pub last_met : Panel → List Entry → Bool
last_met p [] = true
last_met p (e ∷ []) = is_met p e
last_met p (e ∷ later ∷ es) = last_met p (later ∷ es)

-- the count of ones in the message's mask
abbrev pub ones_of : Message → ℕ
ones_of m = ones_in 64 (mask_of m.entries)

pub record Counted (p : Panel) (m : Message) : Type 0 where
  -- ready exactly where all were visited and the last was met
  pub ready_when : (ready p m ≡ true) ↔ ((visited p m ≡ entries_of m) × (last_met p (visited p m) ≡ true))
  -- never more than the count of ones in the mask
  pub at_most : visits p m ≤ ones_of m
  -- at least 1 where the mask is not 0
  pub at_least : mask_of m.entries ≢ 0 → 1 ≤ visits p m
  -- where all are met, the count of ones
  pub all_met : ready p m ≡ true → visits p m ≡ ones_of m

-- ---- a trace

-- the checks of a receive but that of its output: 26, 1 to 8, 20, 21, 32, 22, 23
unfoldable pub trace_checks : Panel → List ℕ → List (Bool × ℕ)
trace_checks p bytes = (broken p, 26) ∷ (checks (width_in bytes) bytes ++ message_checks p (message_from bytes))

-- what is shown: the number that a receive with an output long enough would be refused with, or 0; whether the message is ready; how many
-- entries were visited
pub record Trace : Type 0 where
  pub number : ℕ
  pub ready : Bool
  pub visited : ℕ

-- Of a message both are shown, whatever the number is. Bytes that read as no message are not ready, and have no visits.
abbrev pub shown : Panel → ℕ → Reading → Trace
shown p number (message m) = record { number = number; ready = ready p m; visited = visits p m }
shown p number (refused n) = record { number = number; ready = false; visited = 0 }

unfoldable pub trace : Panel → List ℕ → Trace
trace p bytes = shown p (first_of (trace_checks p bytes)) (reading_of bytes)
