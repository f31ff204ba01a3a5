-- The waiting list as it lies in a panel's record: 32 slots of 569 bytes, each with the length of a frame in 16 bits and then the frame, of version 2,
-- as in a bundle. What stands in a slot behind its frame is no part of the record.
use Rattle.std.specs.Prelude.{ℕ, zero, suc, ◌*◌, ◌≤◌, ◌<◌, ◌≡◌, cond, List, [], ◌∷◌, map, length, get_or, take, drop, ltb}
use Rattle.numbers.specs.Numbers.{number_at}
use Rattle.frame.specs.Message.{Message, message_of}
use Rattle.frame.specs.Reading.{Reading, message, refused, refusal, reading}
use Rattle.rules.specs.Sizes.{width, buffer_length}

-- a slot: 16 bits, and room for the longest frame
abbrev pub slot_length : ℕ
slot_length = 569

-- 32 of them
abbrev pub slots_length : ℕ
slots_length = 18208

-- the frame at the start of bytes that begin with its length: none where that is above the longest frame's
unfoldable pub framed : List ℕ → List ℕ
framed bs = cond (ltb buffer_length (number_at bs 0 2)) [] (take (number_at bs 0 2) (drop 2 bs))

-- the frame in a slot
unfoldable pub frame_at : List ℕ → ℕ → List ℕ
frame_at slots slot = framed (drop (slot * slot_length) slots)

-- the message that a frame carries: where the bytes read as none, one that no readable frame carries, so that 26 applies
abbrev pub message_or : Reading → Message
message_or (message m) = m
message_or (refused n) = message_of 0 0 [] []

unfoldable pub carried : List ℕ → Message
carried bs = message_or (reading width bs)

-- the messages in the slots listed
unfoldable pub held : List ℕ → List ℕ → List Message
held slots places = map (λ slot. carried (frame_at slots slot)) places

-- so many numbers from one on
unfoldable pub up_from : ℕ → ℕ → List ℕ
up_from first zero = []
up_from first (suc n) = first ∷ up_from (suc first) n

-- the first slots, so many of them: where a record's waiting messages lie
abbrev pub first_slots : ℕ → List ℕ
first_slots count = up_from 0 count

-- ---- what the functions ask of their callers

-- the bytes of all slots
abbrev pub Slots : List ℕ → Type 0
Slots slots = length slots ≡ slots_length

-- bytes that read as a message
abbrev pub Reads : List ℕ → Type 0
Reads bs = refusal width bs ≡ 0

-- the length in a slot, and that the slot has room for a frame of that length
abbrev pub length_at : List ℕ → ℕ → ℕ
length_at slots slot = number_at slots (slot * slot_length) 2

abbrev pub Fits : List ℕ → ℕ → Type 0
Fits slots slot = length_at slots slot ≤ buffer_length

-- the first slots hold readable frames
pub record Kept (slots : List ℕ) (count : ℕ) : Type 0 where
  pub few : count ≤ 32
  pub reads : (slot : ℕ) → slot < count → Reads (frame_at slots slot)

-- the slots listed rise from the first on, and hold readable frames
pub record Listed (slots : List ℕ) (count : ℕ) (places : List ℕ) : Type 0 where
  pub few : count ≤ 32
  pub rises : (k : ℕ) → k < count → k ≤ get_or places k 0
  pub below : (k : ℕ) → k < count → get_or places k 0 < 32
  pub reads : (k : ℕ) → k < count → Reads (frame_at slots (get_or places k 0))
