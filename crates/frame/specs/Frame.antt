-- Document 01, "The frame": the bytes of a message's frame. The width is that of a deadline and of an entry in bytes: 4 in version 1, 8 in version 2.
use Rattle.std.specs.Prelude.{ℕ, ◌+◌, ◌*◌, ◌/◌, ◌%◌, ◌≤◌, ◌≡◌, length}
use mathlib.Core.List.{List, [], ◌∷◌, flatten}
use Rattle.numbers.specs.Numbers.{big_endian, big_endians}
use Rattle.frame.specs.declared.version.Version.{Version}
use Rattle.frame.specs.declared.version.Version.TheVariants.{One, Two}
use Rattle.frame.specs.Message.{Message, mask_of, present}

-- mark, hexadecimal 44 52 59
abbrev pub mark : ℕ
mark = 0x445259

-- the width of version 1, and that of version 2, in which frames are written
abbrev pub narrow : ℕ
narrow = 4

abbrev pub wide : ℕ
wide = 8

-- the version whose deadlines have that width
abbrev pub version_of : ℕ → ℕ
version_of width = width / 4

-- a width that frames can have: 4 or 8 bytes
abbrev pub Width : ℕ → Type 0
Width width = (narrow ≤ width) × (width ≤ wide) × (width % 4 ≡ 0)

-- the width of a version
abbrev pub width_of : Version → ℕ
width_of One = narrow
width_of Two = wide

-- the fields, in order
unfoldable pub fields : ℕ → Message → List (List ℕ)
fields width m =
    big_endian 3 mark  -- mark
    ∷ big_endian 2 (version_of width)  -- version
    ∷ big_endian 1 m.source  -- source
    ∷ big_endian width m.deadline  -- deadline
    ∷ big_endian 8 (mask_of m.entries)  -- mask
    ∷ big_endians width (present m.entries)  -- one entry for each mask bit that is set
    ∷ big_endian 1 (length m.payload)  -- payload length
    ∷ m.payload  -- the payload
    ∷ []

-- the frame: its fields one after another
unfoldable pub frame : ℕ → Message → List ℕ
frame width m = flatten (fields width m)

-- the length of the longest frame, with 64 entries and 32 bytes of payload: 307 bytes in version 1, 567 in version 2
abbrev pub longest : ℕ → ℕ
longest width = 15 + width + width * 64 + 32
