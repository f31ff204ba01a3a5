-- Document 01, "The frame": what bytes read as. (`ltb`, `leb` and `eqb` are the library's tests for <, ≤ and ≡.)
use Rattle.std.specs.Prelude.{ℕ, zero, suc, ◌+◌, ◌*◌, Bool, true, cond, not, ◌&&◌, List, [], ◌∷◌, length, drop, ltb, eqb}
use Rattle.std.specs.Int.Count.{ones_in}
use Rattle.numbers.specs.Numbers.{number_at, numbers_at}
use Rattle.frame.specs.Message.{Message, by_panel}
use Rattle.frame.specs.Frame.{mark, narrow, wide, version_of}
use Rattle.frame.specs.Refusal.{first_of}

-- ---- the fields, each at its place in the bytes

abbrev pub mark_in : List ℕ → ℕ
mark_in bs = number_at bs 0 3

abbrev pub version_in : List ℕ → ℕ
version_in bs = number_at bs 3 2

-- the width that the version picks: 8 in version 2, and 4 in any other, which is turned down unless it is 1
abbrev pub width_in : List ℕ → ℕ
width_in bs = cond (eqb (version_in bs) (version_of wide)) wide narrow

abbrev pub source_in : List ℕ → ℕ
source_in bs = number_at bs 5 1

abbrev pub deadline_in : ℕ → List ℕ → ℕ
deadline_in width bs = number_at bs 6 width

abbrev pub mask_in : ℕ → List ℕ → ℕ
mask_in width bs = number_at bs (6 + width) 8

-- the number of entries is the count of ones in the mask
abbrev pub count_in : ℕ → List ℕ → ℕ
count_in width bs = ones_in 64 (mask_in width bs)

abbrev pub entries_in : ℕ → List ℕ → List ℕ
entries_in width bs = numbers_at bs (14 + width) width (count_in width bs)

abbrev pub length_in : ℕ → List ℕ → ℕ
length_in width bs = number_at bs (14 + width + width * count_in width bs) 1

-- the place of the payload, behind the entries and the length byte
abbrev pub payload_place : ℕ → List ℕ → ℕ
payload_place width bs = 15 + width + width * count_in width bs

-- ---- the checks

-- each entry is at least 1 and below the frame's deadline
unfoldable pub each_earlier : ℕ → List ℕ → Bool
each_earlier deadline [] = true
each_earlier deadline (e ∷ es) = ltb 0 e && ltb e deadline && each_earlier deadline es

-- the checks of a reading in the version of a width, in order, each with its number
unfoldable pub checks : ℕ → List ℕ → List (Bool × ℕ)
checks width bs =
    (ltb (length bs) 19, 1)  -- fewer than 19 bytes
    ∷ (not (eqb (mark_in bs) mark), 2)  -- mark
    ∷ (not (eqb (version_in bs) (version_of width)), 3)  -- version
    ∷ (ltb (length bs) (15 + width), 1)  -- fewer bytes than a frame of that version has
    ∷ (ltb 63 (source_in bs), 4)  -- source
    ∷ (eqb (deadline_in width bs) 0, 5)  -- deadline 0
    ∷ (ltb (length bs) (payload_place width bs), 1)  -- too few bytes for the entries and the length byte
    ∷ (not (each_earlier (deadline_in width bs) (entries_in width bs)), 6)  -- entries
    ∷ (ltb 32 (length_in width bs), 7)  -- payload length
    ∷ (ltb (length bs) (payload_place width bs + length_in width bs), 1)  -- too few bytes for the payload
    ∷ (ltb (payload_place width bs + length_in width bs) (length bs), 8)  -- bytes left over
    ∷ []

-- the number of the first check that applies; 0 where none does
abbrev pub refusal : ℕ → List ℕ → ℕ
refusal width bs = first_of (checks width bs)

-- ---- the reading

pub data Reading : Type 0 where
  message : Message → Reading
  refused : ℕ → Reading

unfoldable pub message_in : ℕ → List ℕ → Message
message_in width bs =
    record {
      source = source_in bs;
      deadline = deadline_in width bs;
      entries = by_panel 64 (mask_in width bs) (entries_in width bs);
      payload = drop (payload_place width bs) bs;
    }

-- a message where no check applies, else the number
abbrev pub read_as : ℕ → Message → Reading
read_as zero m = message m
read_as (suc n) m = refused (suc n)

unfoldable pub reading : ℕ → List ℕ → Reading
reading width bs = read_as (refusal width bs) (message_in width bs)

-- ---- bytes of either version

abbrev pub refusal_of : List ℕ → ℕ
refusal_of bs = refusal (width_in bs) bs

abbrev pub message_from : List ℕ → Message
message_from bs = message_in (width_in bs) bs

abbrev pub reading_of : List ℕ → Reading
reading_of bs = reading (width_in bs) bs
