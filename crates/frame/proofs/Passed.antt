-- Bytes to which no check applies: what that says of them, what they read as, and that they are the frame of that message. Assumes nothing.
use mathlib.Core.Path.{◌≡◌, refl, sym}
use mathlib.Core.Bool.{true}
use mathlib.Core.List.{List, ◌++◌, flatten, append-nil}
use Prim.Native.Nat.{ℕ, zero, suc, ◌+◌, ◌*◌, ◌^◌, ◌≤◌, ◌<◌}
use native.Mathlib.Nat.{le_of_eq, le_antisymm}
use native.Mathlib.Omega.{arith}
use lib.ListN.{length, take, drop, length-drop, take-append-drop}
use lib.Seq.{drop-drop}
use borrow.Author.Tests.{le-ltb, eq-eqb, ne_eqb, ltb-false, eqb-true, eqb-false, not-false}
use Rattle.numbers.specs.Numbers.{Bytes}
use Rattle.numbers.proofs.Bytes.{Bytes-drop}
use Rattle.numbers.proofs.NumberAt.{big_endian_number_at, number_at_lt, big_endians-numbers_at, length-numbers_at}
use Rattle.frame.specs.Message.{Message, mask_of, present}
use Rattle.frame.specs.Frame.{mark, version_of, fields, frame}
use Rattle.frame.specs.Refusal.{first_of}
use Rattle.frame.specs.Reading.{mark_in, version_in, source_in, deadline_in, mask_in, count_in, entries_in, length_in, payload_place, each_earlier, checks, refusal, message, refused, message_in, read_as, reading}
use Rattle.frame.proofs.EachNumber.{each_earlier_pos, each_earlier-lt}
use Rattle.frame.proofs.Entries.{length-by_panel, present-by_panel, by_panel-lt}
use Rattle.frame.proofs.Readable.{Readable}
use Rattle.frame.proofs.FirstOf.{each_number, applies-none}

pub record Passed (width : ℕ) (bs : List ℕ) : Type 0 where
  pub long : 19 ≤ length bs
  pub mark : mark_in bs ≡ mark
  pub version : version_in bs ≡ version_of width
  pub source : source_in bs ≤ 63
  pub deadline : deadline_in width bs ≡ 0 → ⊥
  pub room : payload_place width bs ≤ length bs
  pub entries : each_earlier (deadline_in width bs) (entries_in width bs) ≡ true
  pub payload : length_in width bs ≤ 32
  pub whole : payload_place width bs + length_in width bs ≡ length bs

pub passed_zero : (width : ℕ) (bs : List ℕ) → Passed width bs → refusal width bs ≡ 0
unfolding checks first_of
passed_zero width bs p =
    simp (
      le-ltb _ _ p.long,
      eq-eqb _ _ p.mark,
      eq-eqb _ _ p.version,
      le-ltb (length bs) (15 + width) (omega (arith, p.room)),
      le-ltb _ _ p.source,
      ne_eqb _ _ p.deadline,
      le-ltb _ _ p.room,
      p.entries,
      le-ltb _ _ p.payload,
      le-ltb _ _ (le_of_eq p.whole),
      le-ltb _ _ (le_of_eq (sym p.whole)),
    )

pub zero_passed : (width : ℕ) (bs : List ℕ) → refusal width bs ≡ 0 → Passed width bs
unfolding checks each_number
zero_passed width bs e =
    let passes = applies-none (checks width bs) refl e in
    record {
      long = ltb-false _ _ (passes 0);
      mark = eqb-true _ _ (not-false _ (passes 1));
      version = eqb-true _ _ (not-false _ (passes 2));
      source = ltb-false _ _ (passes 4);
      deadline = eqb-false _ _ (passes 5);
      room = ltb-false _ _ (passes 6);
      entries = not-false _ (passes 7);
      payload = ltb-false _ _ (passes 8);
      whole = le_antisymm (ltb-false _ _ (passes 9)) (ltb-false _ _ (passes 10));
    }

-- ---- the reading, by its refusal number

pub reading-zero : (width : ℕ) (bs : List ℕ) → refusal width bs ≡ 0 → reading width bs ≡ message (message_in width bs)
unfolding reading
reading-zero width bs e = rw e

read_as-refused : (n : ℕ) (m : Message) → (n ≡ 0 → ⊥) → read_as n m ≡ refused n
read_as-refused zero m h = absurd (h refl)
read_as-refused (suc n) m h = refl

pub reading-refused : (width : ℕ) (bs : List ℕ) → (refusal width bs ≡ 0 → ⊥) → reading width bs ≡ refused (refusal width bs)
unfolding reading
reading-refused width bs h = read_as-refused (refusal width bs) (message_in width bs) h

read_as-message : (n : ℕ) (m' m : Message) → read_as n m' ≡ message m → (n ≡ 0) × (m' ≡ m)
read_as-message zero m' m e = (refl, cc)
read_as-message (suc n) m' m e = let z : ◌≡◌ {A = ℕ} 0 1 = cc in absurd (omega arith)

pub reading-message : (width : ℕ) (bs : List ℕ) (m : Message) → reading width bs ≡ message m → Passed width bs × (message_in width bs ≡ m)
unfolding reading
reading-message width bs m e =
    let r = read_as-message (refusal width bs) (message_in width bs) m e in (zero_passed width bs r.0, r.1)

-- ---- the payload of bytes that pass

module _ (width : ℕ) (bs : List ℕ) (p : Passed width bs) where
  pub length_payload : length (message_in width bs).payload ≡ length_in width bs
  unfolding message_in
  length_payload = rw length-drop (omega (arith, p.whole))

-- ---- the entries of bytes that pass, apart and together again

module _ (width : ℕ) (bs : List ℕ) (p : Passed width bs) (fits : mask_in width bs < 2 ^ 64) where
  apart : (present (message_in width bs).entries ≡ entries_in width bs) × (mask_of (message_in width bs).entries ≡ mask_in width bs)
  unfolding message_in
  apart =
      present-by_panel 64 (mask_in width bs) (entries_in width bs) fits
      (sym (length-numbers_at bs (14 + width) width (count_in width bs)))
      (each_earlier_pos _ _ p.entries)

  -- the mask of bytes that pass is that of their message's entries, and their entries are those that are there
  pub mask_of_passed : mask_of (message_in width bs).entries ≡ mask_in width bs
  mask_of_passed = apart.1

  pub present_passed : present (message_in width bs).entries ≡ entries_in width bs
  present_passed = apart.0

-- ---- bytes that pass are the frame of their message

module _ (width : ℕ) (bs : List ℕ) (b : Bytes bs) (p : Passed width bs) where
  pub mask_fits : mask_in width bs < 2 ^ 64
  mask_fits = number_at_lt bs (6 + width) 8 b (omega (arith, p.room))

  pub passed_readable : Readable width (message_in width bs)
  unfolding message_in
  passed_readable =
      let pos : 0 < deadline_in width bs = omega (arith, p.deadline) in
      record {
        source = omega (arith, p.source);
        deadline = pos;
        fits = number_at_lt bs 6 width b (omega (arith, p.room));
        panels = length-by_panel 64 (mask_in width bs) (entries_in width bs);
        entries = by_panel-lt _ 64 (mask_in width bs) (entries_in width bs) pos (each_earlier-lt _ (entries_in width bs) pos p.entries);
        payload = rw length-drop (omega (arith, p.payload, p.whole));
        bytes = Bytes-drop (payload_place width bs) bs b;
      }

  -- a part and what stands behind it
  rejoin : (at n : ℕ) {behind : ℕ} → at + n ≡ behind → take n (drop at bs) ++ drop behind bs ≡ drop at bs
  rejoin at n e = rw (← e, ← drop-drop n at bs) (take-append-drop n (drop at bs))

  pub passed_frame : frame width (message_in width bs) ≡ bs
  unfolding frame fields flatten message_in
  passed_frame =
      let n = count_in width bs in
      let room = p.room in
      let size : length (drop (payload_place width bs) bs) ≡ length_in width bs = rw length-drop (omega (arith, p.whole)) in
      rw (
        append-nil,
        (apart width bs p mask_fits).1,
        (apart width bs p mask_fits).0,
        ← p.mark,
        ← p.version,
        size,
        big_endian_number_at bs 0 3 b (omega arith),
        big_endian_number_at bs 3 2 b (omega arith),
        big_endian_number_at bs 5 1 b (omega arith),
        big_endian_number_at bs 6 width b (omega arith),
        big_endian_number_at bs (6 + width) 8 b (omega arith),
        big_endians-numbers_at bs (14 + width) width n b (omega arith),
        big_endian_number_at bs (14 + width + width * n) 1 b (omega arith),
        rejoin (14 + width + width * n) 1 {behind = 15 + width + width * n} (omega arith),
        rejoin (14 + width) (width * n) {behind = 14 + width + width * n} refl,
        rejoin (6 + width) 8 {behind = 14 + width} (omega arith),
        rejoin 6 width {behind = 6 + width} refl,
        rejoin 5 1 {behind = 6} refl,
        rejoin 3 2 {behind = 5} refl,
        take-append-drop,
      )
