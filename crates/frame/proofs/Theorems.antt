-- What is shown of frames as a whole, for every width of a deadline that frames can have. Assumes nothing.
use mathlib.Core.Path.{◌≡◌, refl, sym, ap, ◌∙◌}
use mathlib.Core.Logic.{◌↔◌}
use mathlib.Core.Bool.{Bool, true, false, cond}
use mathlib.Core.List.{List}
use Prim.Native.Nat.{ℕ, ◌+◌, ◌*◌, ◌/◌, ◌%◌, ◌^◌, ◌≤◌, ◌<◌}
use native.Mathlib.Nat.{zero-mul, one-mul, lt_of_lt_of_le, mul-le-mul_left, pow-le-pow_right}
use native.Mathlib.Omega.{arith}
use lib.Dec.{eqb}
use lib.ListN.{length, get_or}
use lib.Count.{ones_in}
use borrow.Author.Tests.{eqb-true, eqb-false}
use Rattle.numbers.specs.Numbers.{Bytes, number_at}
use Rattle.numbers.proofs.NumberAt.{get_or-numbers_at}
use Rattle.frame.specs.Message.{Message, bit, mask_of, present}
use Rattle.frame.specs.Frame.{narrow, wide, version_of, Width, frame, longest}
use Rattle.frame.specs.Reading.{width_in, mask_in, count_in, entries_in, message, message_in, reading, refusal_of, message_from, reading_of}
use Rattle.frame.specs.Readable.{readable}
use Rattle.frame.proofs.Entries.{present-le}
use Rattle.frame.proofs.Panels.{bit_mask_of, get_or-by_panel, ones_in_lt}
use Rattle.frame.proofs.Readable.{Readable, readable-true, true-readable}
use Rattle.frame.proofs.Widths.{width_in_le}
use Rattle.frame.proofs.Passed.{passed_zero, reading-zero, reading-message, passed_readable, passed_frame}
use Rattle.frame.proofs.Places.{length-frame, Bytes-frame, version_place, frame_passed, frame-message}

-- ---- there and back

-- A written frame reads back as its message.
pub reading-frame : (width : ℕ) (m : Message) → Width width → readable width m ≡ true → reading width (frame width m) ≡ message m
reading-frame width m w e =
    let r = true-readable width m e in
    reading-zero width (frame width m) (passed_zero width (frame width m) (frame_passed width m w r)) ∙ ap message (frame-message width m w r)

-- Bytes that read as a message are the very bytes written for it.
pub frame-reading : (width : ℕ) (bs : List ℕ) (m : Message) → Bytes bs → reading width bs ≡ message m → frame width m ≡ bs
frame-reading width bs m b e = let r = reading-message width bs m e in rw (← r.1) (passed_frame width bs b r.0)

-- ---- bytes of either version

-- The version of a frame picks its width.
pub width-frame : (width : ℕ) (m : Message) → Width width → width_in (frame width m) ≡ width
width-frame width m w = rw (version_place width m w) (go (eqb (version_of width) (version_of wide)) refl)
  where
    go : (b : Bool) → eqb (version_of width) (version_of wide) ≡ b → cond b wide narrow ≡ width
    go true e = omega (arith, eqb-true (version_of width) (version_of wide) e)
    go false e = omega (arith, eqb-false (version_of width) (version_of wide) e)

-- A frame of either version reads back as its message.
pub reading_of_frame : (width : ℕ) (m : Message) → Width width → readable width m ≡ true → reading_of (frame width m) ≡ message m
reading_of_frame width m w e = rw (width-frame width m w) (reading-frame width m w e)

pub message_from-frame : (width : ℕ) (m : Message) → Width width → Readable width m → message_from (frame width m) ≡ m
message_from-frame width m w r = rw (width-frame width m w) (frame-message width m w r)

-- Bytes of either version that read as a message are the very bytes written for it in their version.
pub frame_reading_of : (bs : List ℕ) (m : Message) → Bytes bs → reading_of bs ≡ message m → frame (width_in bs) m ≡ bs
frame_reading_of bs m b e = frame-reading (width_in bs) bs m b e

-- Where bytes read as the same, they read as the same message.
pub reads_alike : (one other : List ℕ) → refusal_of other ≡ 0 → reading_of one ≡ reading_of other
    → (refusal_of one ≡ 0) × (message_from one ≡ message_from other)
reads_alike one other e alike =
    let (passed, same) = reading-message (width_in one) one (message_from other) (alike ∙ reading-zero (width_in other) other e) in
    (passed_zero (width_in one) one passed, same)

-- ---- which messages have a frame

-- What bytes read as has a frame.
readable-from : (width : ℕ) (bs : List ℕ) (m : Message) → Bytes bs → reading width bs ≡ message m → readable width m ≡ true
readable-from width bs m b e =
    let r = reading-message width bs m e in
    rw (← r.1) (readable-true width (message_in width bs) (passed_readable width bs b r.0))

-- A message has a frame exactly where some bytes read as it.
pub readable_iff : (width : ℕ) (m : Message) → Width width
    → (readable width m ≡ true) ↔ ((bs : List ℕ) × Bytes bs × (reading width bs ≡ message m))
readable_iff width m w = (
  λ e. (frame width m, Bytes-frame width m w (true-readable width m e), reading-frame width m w e),
  λ found. readable-from width found.0 m found.1 found.2,
)

-- A message that has a frame has one in a wider version.
pub readable_wider : (width wider : ℕ) (m : Message) → width ≤ wider → readable width m ≡ true → readable wider m ≡ true
readable_wider width wider m h e =
    let r = true-readable width m e in
    readable-true wider m (record {
      source = r.source;
      deadline = r.deadline;
      fits = lt_of_lt_of_le r.fits (pow-le-pow_right (omega arith) h);
      panels = r.panels;
      entries = r.entries;
      payload = r.payload;
      bytes = r.bytes;
    })

-- One whose deadline passes the width has none: a deadline above 4,294,967,295 has no frame of version 1.
pub unreadable_past : (width : ℕ) (m : Message) → 256 ^ width ≤ m.deadline → readable width m ≡ false
unreadable_past width m past = go (readable width m) refl
  where
    go : (b : Bool) → readable width m ≡ b → b ≡ false
    go true e = absurd (omega (arith, past, (true-readable width m e).fits))
    go false e = refl

-- What bytes of either version read as has a frame of version 2.
pub reading_of_readable : (bs : List ℕ) (m : Message) → Bytes bs → reading_of bs ≡ message m → readable wide m ≡ true
reading_of_readable bs m b e =
    readable_wider (width_in bs) wide m (width_in_le bs) (readable-from (width_in bs) bs m b e)

pub from-readable : (bs : List ℕ) → Bytes bs → refusal_of bs ≡ 0 → Readable wide (message_from bs)
from-readable bs b e = true-readable wide (message_from bs) (reading_of_readable bs (message_from bs) b (reading-zero (width_in bs) bs e))

-- A frame has 19 to 307 bytes in version 1, and 23 to 567 in version 2.
pub frame_size : (width : ℕ) (m : Message) → readable width m ≡ true
    → (15 + width ≤ length (frame width m)) × (length (frame width m) ≤ longest width)
frame_size width m e =
    let r = true-readable width m e in
    let few : length (present m.entries) ≤ 64 = omega (arith, present-le m.entries, r.panels) in
    let l = length-frame width m in
    (omega arith, omega (arith, mul-le-mul_left width few, r.payload))

-- ---- which bit and which entry belong to which panel

-- the bit of weight 2 to the power s
abbrev pub bit_at : ℕ → ℕ → ℕ
bit_at mask s = mask / 2 ^ s % 2

-- The bit of weight 2 to the power s stands for panel s: it is set where the panel has an entry.
pub mask_bit : (m : Message) (s : ℕ) → bit_at (mask_of m.entries) s ≡ bit (get_or m.entries s 0)
mask_bit m s = bit_mask_of m.entries s

-- Of bytes that read as a message, a panel whose bit is set has the entry that stands behind those of the set bits below it.
-- Any other panel has none.
pub entry_place : (width : ℕ) (bs : List ℕ) (m : Message) → reading width bs ≡ message m → (s : ℕ) → s < 64
    → (bit_at (mask_in width bs) s ≡ 1 → get_or m.entries s 0 ≡ number_at bs (14 + width + width * ones_in s (mask_in width bs)) width)
    × (bit_at (mask_in width bs) s ≡ 0 → get_or m.entries s 0 ≡ 0)
unfolding message_in
entry_place width bs m e s h =
    let mask = mask_in width bs in
    let here : get_or m.entries s 0 ≡ bit_at (mask_in width bs) s * get_or (entries_in width bs) (ones_in s (mask_in width bs)) 0 =
    ap (λ (x : Message). get_or x.entries s 0) (sym (reading-message width bs m e).1) ∙ get_or-by_panel 64 mask (entries_in width bs) s h in (
      λ set. here ∙ rw (set, one-mul) (get_or-numbers_at bs (14 + width) width (count_in width bs) (ones_in s mask) (ones_in_lt 64 mask s h set)),
      λ unset. here ∙ rw (unset, zero-mul),
    )
