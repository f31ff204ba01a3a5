-- Document 01, "The frame": a message, and the mask and the entries that its frame carries.
use Rattle.std.specs.Prelude.{ℕ, zero, suc, ◌+◌, ◌*◌, ◌/◌, ◌%◌, List, [], ◌∷◌, get_or, drop}

-- A message is known by its source and deadline. `entries` has a number for each of the 64 panels, panel 0 first: the deadline of a message
-- of that panel, or 0 where the panel has no entry. (The entries are the message's causal barrier.)
pub record Message : Type 0 where
  pub source : ℕ
  pub deadline : ℕ
  pub entries : List ℕ
  pub payload : List ℕ

-- the message of these fields
abbrev pub message_of : ℕ → ℕ → List ℕ → List ℕ → Message
message_of source deadline entries payload = record { source = source; deadline = deadline; entries = entries; payload = payload }

-- the bit of a panel's entry: 0 where it has none
abbrev pub bit : ℕ → ℕ
bit zero = 0
bit (suc e) = 1

-- mask; the bit of weight 2 to the power s stands for panel s
unfoldable pub mask_of : List ℕ → ℕ
mask_of [] = 0
mask_of (e ∷ es) = bit e + 2 * mask_of es

-- one entry for each mask bit that is set, lowest panel first
unfoldable pub present : List ℕ → List ℕ
present [] = []
present (zero ∷ es) = present es
present (suc e ∷ es) = suc e ∷ present es

-- and back: the entries ws of the bits that are set among the lowest n of the mask, each at its panel's place, and 0 at the others. The lowest
-- bit, 0 or 1, says whether the first entry is the panel's and is used up
unfoldable pub by_panel : ℕ → ℕ → List ℕ → List ℕ
by_panel zero mask ws = []
by_panel (suc n) mask ws = mask % 2 * get_or ws 0 0 ∷ by_panel n (mask / 2) (drop (mask % 2) ws)
