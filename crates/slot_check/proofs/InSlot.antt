-- A slot that holds a readable frame, by the numbers that stand in the slot itself. Assumes nothing.
use mathlib.Core.Path.{◌≡◌, refl, sym, ap, ◌∙◌}
use mathlib.Core.Bool.{Bool, true, false}
use mathlib.Core.List.{List}
use Prim.Native.Nat.{ℕ, zero, suc, ◌+◌, ◌-◌, ◌*◌, ◌/◌, ◌%◌, ◌≤◌, ◌<◌}
use native.Mathlib.Nat.{add_assoc, mul-suc, le_of_suc-le-suc, lt_of_not-le}
use native.Mathlib.Omega.{arith}
use lib.Dec.{eqb}
use lib.ListN.{length, take, drop, length-drop}
use lib.Seq.{drop-drop, take-take, length-take-le}
use lib.Count.{ones_in}
use borrow.Author.Tests.{eq-eqb, ne_eqb, eqb-true, eqb-false}
use Rattle.numbers.specs.Numbers.{Bytes, number_at, numbers_at}
use Rattle.numbers.proofs.NumberAt.{number_at_add, number_at_lt}
use Rattle.frame.specs.Frame.{mark, version_of}
use Rattle.frame.specs.Reading.{count_in, entries_in, length_in, each_earlier}
use Rattle.frame.proofs.Passed.{Passed, zero_passed, passed_zero}
use Rattle.rules.specs.Sizes.{width, buffer_length}
use Rattle.slots.specs.Slots.{slot_length, framed, Reads}
use Rattle.numbers.proofs.Ones.{ones_in_le}
use Rattle.slots.proofs.Framed.{framed_long, framed_short, drop-take}

-- ---- the numbers of a frame stand in its slot, two places further on

module _ (bs : List ℕ) (n : ℕ) (room : 2 + n ≤ length bs) where
  number_at_framed : (at many : ℕ) → at + many ≤ n → number_at (take n (drop 2 bs)) at many ≡ number_at bs (2 + at) many
  unfolding number_at
  number_at_framed at many le =
      let e : at + (n - at) ≡ n = omega arith in
      rw (
        ← e,
        drop-take at (n - at) (drop 2 bs) (rw length-drop (omega arith)),
        take-take many (n - at) (drop at (drop 2 bs)) (omega arith),
        drop-drop at 2 bs,
      )

  numbers_at-framed : (at many count : ℕ) → at + many * count ≤ n → numbers_at (take n (drop 2 bs)) at many count ≡ numbers_at bs (2 + at) many count
  unfolding numbers_at
  numbers_at-framed at many zero le = refl
  numbers_at-framed at many (suc count) le =
      let fits : at + many + many * count ≤ n = omega (arith, mul-suc many count) in
      rw (number_at_framed at many (omega arith), numbers_at-framed (at + many) many count fits, add_assoc)

-- ---- what the numbers of a slot say

abbrev pub deadline_of : List ℕ → ℕ
deadline_of bs = number_at bs 8 width

abbrev pub count_of : List ℕ → ℕ
count_of bs = ones_in 64 (number_at bs (8 + width) 8)

abbrev pub payload_of : List ℕ → ℕ
payload_of bs = number_at bs (16 + width + width * count_of bs) 1

pub record Holds (bs : List ℕ) : Type 0 where
  pub head : number_at bs 0 8 % 281474976710656 / 64 ≡ (mark * 65536 + version_of width) * 4
  pub deadline : deadline_of bs ≡ 0 → ⊥
  pub entries : each_earlier (deadline_of bs) (numbers_at bs (16 + width) width (count_of bs)) ≡ true
  pub payload : payload_of bs ≤ 32
  pub whole : number_at bs 0 8 / 281474976710656 + 1 ≡ 16 + width + width * count_of bs + payload_of bs

module _ (bs : List ℕ) (bytes : Bytes bs) (long : slot_length ≤ length bs) where
  -- the first eight bytes, and how large each of their numbers is
  apart : number_at bs 0 8
      ≡ number_at bs 0 2 * 281474976710656 + (number_at bs 2 3 * 16777216 + (number_at bs 5 2 * 256 + number_at bs 7 1))
  apart =
      number_at_add bs 0 2 6 (omega arith)
      ∙ omega (arith, number_at_add bs 2 3 3 (omega arith), number_at_add bs 5 2 1 (omega arith))

  small : (number_at bs 2 3 < 16777216) × (number_at bs 5 2 < 65536) × (number_at bs 7 1 < 256)
  small = (number_at_lt bs 2 3 bytes (omega arith), number_at_lt bs 5 2 bytes (omega arith), number_at_lt bs 7 1 bytes (omega arith))

  length_of : number_at bs 0 8 / 281474976710656 ≡ number_at bs 0 2
  length_of = omega (arith, apart, small)

  few : count_of bs ≤ 64
  few = ones_in_le 64 (number_at bs (8 + width) 8)

  -- the frame, where its length leaves it in the slot
  module _ (n : ℕ) (fits : n ≤ buffer_length) where
    abbrev inside : List ℕ
    inside = take n (drop 2 bs)

    room : 2 + n ≤ length bs
    room = omega arith

    length_inside : length inside ≡ n
    length_inside = length-take-le n (drop 2 bs) (rw length-drop (omega arith))

    -- at the same places, as far as the frame goes
    same : (at many : ℕ) → at + many ≤ n → number_at inside at many ≡ number_at bs (2 + at) many
    same at many le = number_at_framed bs n room at many le

    count_same : 15 + width ≤ n → count_in width inside ≡ count_of bs
    count_same le = ap (ones_in 64) (same (6 + width) 8 (omega arith))

    entries_same : 15 + width + width * count_of bs ≤ n → entries_in width inside ≡ numbers_at bs (16 + width) width (count_of bs)
    entries_same le = ap (numbers_at inside (14 + width) width) (count_same (omega arith)) ∙ numbers_at-framed bs n room (14 + width) width (count_of bs) (omega arith)

    payload_same : 15 + width + width * count_of bs ≤ n → length_in width inside ≡ payload_of bs
    payload_same le =
        let place : 2 + (14 + width + width * count_of bs) ≡ 16 + width + width * count_of bs = omega arith in
        ap (λ (count : ℕ). number_at inside (14 + width + width * count) 1) (count_same (omega arith))
        ∙ same (14 + width + width * count_of bs) 1 (omega arith)
        ∙ ap (λ (at : ℕ). number_at bs at 1) place

    holds_passed : Holds bs → n + 1 ≡ 16 + width + width * count_of bs + payload_of bs → Passed width inside
    holds_passed h size =
        let some : 15 + width + width * count_of bs ≤ n = omega arith in
        let count = count_same (omega arith) in
        let due = same 6 width (omega arith) in
        let l = length_inside in
        record {
          long = omega arith;
          mark = omega (arith, same 0 3 (omega arith), apart, small, h.head);
          version = omega (arith, same 3 2 (omega arith), apart, small, h.head);
          source = omega (arith, same 5 1 (omega arith), apart, small, h.head);
          deadline = λ z. h.deadline (sym due ∙ z);
          room = omega (arith, count);
          entries = rw (due, entries_same some) h.entries;
          payload = omega (arith, payload_same some, h.payload);
          whole = omega (arith, payload_same some, count);
        }

    passed_holds : number_at bs 0 2 ≡ n → Passed width inside → Holds bs
    passed_holds e p =
        let l = length_inside in
        let long' : 15 + width ≤ n = omega (arith, p.room) in
        let count = count_same long' in
        let some : 15 + width + width * count_of bs ≤ n = omega (arith, p.room, count) in
        let due = same 6 width (omega arith) in
        record {
          head = omega (
            arith,
            apart,
            small,
            same 0 3 (omega arith),
            same 3 2 (omega arith),
            same 5 1 (omega arith),
            p.mark,
            p.version,
            p.source,
          );
          deadline = λ z. p.deadline (due ∙ z);
          entries = rw (← due, ← entries_same some) p.entries;
          payload = omega (arith, payload_same some, p.payload);
          whole = omega (arith, length_of, payload_same some, count, p.whole);
        }

  pub holds_reads : Holds bs → Reads (framed bs)
  holds_reads h =
      let size : number_at bs 0 2 + 1 ≡ 16 + width + width * count_of bs + payload_of bs = omega (arith, length_of, h.whole) in
      let fits : number_at bs 0 2 ≤ buffer_length = omega (arith, few, h.payload) in
      rw (framed_short bs fits) (passed_zero width _ (holds_passed (number_at bs 0 2) fits h size))

  pub reads_holds : Reads (framed bs) → Holds bs
  reads_holds r = passed_holds (number_at bs 0 2) fits refl (zero_passed width _ (rw (framed_short bs fits) at r))
    where
      too_short : buffer_length < number_at bs 0 2 → ⊥
      too_short over = omega (arith, ap length (framed_long bs over), (zero_passed width (framed bs) r).long)

      fits : number_at bs 0 2 ≤ buffer_length
      fits = le_of_suc-le-suc (lt_of_not-le too_short)

-- ---- one test for another

pub eqb_both : (a b c d : ℕ) → (a ≡ b → c ≡ d) → (c ≡ d → a ≡ b) → eqb a b ≡ eqb c d
eqb_both a b c d to back = go (eqb a b) refl
  where
    go : (t : Bool) → eqb a b ≡ t → t ≡ eqb c d
    go true e = sym (eq-eqb c d (to (eqb-true a b e)))
    go false e = sym (ne_eqb c d (λ q. eqb-false a b e (back q)))
