-- Laws of slots into which bytes were put: the frame there, and those before and behind. Assumes nothing.
use mathlib.Core.Path.{◌≡◌, sym, ap, ◌∙◌}
use mathlib.Core.List.{List, ◌++◌}
use Prim.Native.Nat.{ℕ, ◌+◌, ◌-◌, ◌*◌, ◌≤◌, ◌<◌}
use native.Mathlib.Omega.{arith}
use lib.ListN.{length, get_or, take, drop, length-append, length-drop}
use lib.Seq.{paste, get_or-drop, drop-drop, drop_at, drop-paste, take_all, take-take, take-append-le, drop-append-le, drop-append-add, length-take-le}
use Rattle.numbers.specs.Numbers.{big_endian, number, number_at}
use Rattle.numbers.specs.Buffer.{over}
use Rattle.numbers.proofs.BigEndian.{length-big_endian}
use Rattle.numbers.proofs.NumberAt.{number_at_drop, number_at_big_endian}
use Rattle.numbers.proofs.Over.{length_over}
use Rattle.rules.specs.Sizes.{buffer_length}
use Rattle.slots.specs.Slots.{slot_length, framed, frame_at, length_at}
use Rattle.slots.proofs.Framed.{framed_short, drop-take}

-- ---- bytes that are moved to a place before them

-- what a copy has not reached is as it was
pub get_or_paste : (bs : List ℕ) (to from n : ℕ) → to ≤ from → from + n < length bs
    → get_or (paste bs to (drop from bs) n) (from + n) 0 ≡ get_or (drop from bs) n 0
get_or_paste bs to from n le lt =
    let e : to + n + (from - to) ≡ from + n = omega arith in
    let size : n ≤ length (drop from bs) = rw length-drop (omega arith) in
    ap (λ (i : ℕ). get_or (paste bs to (drop from bs) n) i 0) (sym e)
    ∙ sym (get_or-drop (to + n) (paste bs to (drop from bs) n) (from - to) 0)
    ∙ ap (λ (l : List ℕ). get_or l (from - to) 0) (drop-paste bs to (drop from bs) n (omega arith) size)
    ∙ get_or-drop (to + n) bs (from - to) 0
    ∙ ap (λ (i : ℕ). get_or bs i 0) e
    ∙ sym (get_or-drop from bs n 0)

pub paste_over : (bs : List ℕ) (to : ℕ) (more : List ℕ) (n : ℕ) → n ≤ length more → paste bs to more n ≡ over bs to (take n more)
unfolding over
paste_over bs to more n le = rw (length-take-le n more le)

-- ---- the frame is settled by its length and so many bytes

pub number_at_take : (n : ℕ) (bs : List ℕ) → 2 ≤ n → number_at (take n bs) 0 2 ≡ number_at bs 0 2
unfolding number_at
number_at_take n bs le = ap number (take-take 2 n bs le)

pub framed_same : (bs others : List ℕ) → 2 ≤ length bs → 2 ≤ length others
    → take (2 + number_at bs 0 2) others ≡ take (2 + number_at bs 0 2) bs → framed others ≡ framed bs
unfolding framed
framed_same bs others two also e =
    let k = number_at bs 0 2 in
    let n : number_at others 0 2 ≡ k
    = sym (number_at_take (2 + k) others (omega arith)) ∙ ap (λ (l : List ℕ). number_at l 0 2) e ∙ number_at_take (2 + k) bs (omega arith) in
    let f : take k (drop 2 others) ≡ take k (drop 2 bs) = sym (drop-take 2 k others also) ∙ ap (drop 2) e ∙ drop-take 2 k bs two in
    rw (n, f)

-- ---- what stands before and behind the bytes put

take_over_before : (n : ℕ) (buffer : List ℕ) (at : ℕ) (bs : List ℕ) → n ≤ at → at ≤ length buffer → take n (over buffer at bs) ≡ take n buffer
unfolding over
take_over_before n buffer at bs le room =
    let size : length (take at buffer) ≡ at = length-take-le at buffer room in
    let front : n ≤ length (take at buffer ++ bs) = rw length-append (omega arith) in
    take-append-le n (take at buffer ++ bs) (drop (at + length bs) buffer) front
    ∙ take-append-le n (take at buffer) bs (omega arith)
    ∙ take-take n at buffer le

drop_over_behind : (n : ℕ) (buffer : List ℕ) (at : ℕ) (bs : List ℕ) → at + length bs ≤ n → at ≤ length buffer → drop n (over buffer at bs) ≡ drop n buffer
unfolding over
drop_over_behind n buffer at bs le room =
    let size : length (take at buffer ++ bs) ≡ at + length bs = rw (length-append, length-take-le at buffer room) in
    let more = n - (at + length bs) in
    let e : n ≡ length (take at buffer ++ bs) + more = omega arith in
    let f : at + length bs + more ≡ n = omega arith in
    ap (λ (k : ℕ). drop k (take at buffer ++ bs ++ drop (at + length bs) buffer)) e
    ∙ drop-append-add (take at buffer ++ bs) (drop (at + length bs) buffer) more
    ∙ drop-drop more (at + length bs) buffer
    ∙ ap (λ (k : ℕ). drop k buffer) f

drop_over_here : (buffer : List ℕ) (at : ℕ) (bs : List ℕ) → at ≤ length buffer → drop at (over buffer at bs) ≡ bs ++ drop (at + length bs) buffer
unfolding over
drop_over_here buffer at bs room =
    let size : length (take at buffer) ≡ at = length-take-le at buffer room in
    let front : at ≤ length (take at buffer ++ bs) = rw length-append (omega arith) in
    drop-append-le at (take at buffer ++ bs) (drop (at + length bs) buffer) front
    ∙ ap (λ (l : List ℕ). l ++ drop (at + length bs) buffer) (drop_at (take at buffer) bs at size)

-- ---- the frames in slots into which bytes were put

module _ (slots : List ℕ) (at : ℕ) (bs : List ℕ) (room : at + length bs ≤ length slots) where
  pub frame_at_before : (slot : ℕ) → slot * slot_length + slot_length ≤ at → length_at slots slot ≤ buffer_length → frame_at (over slots at bs) slot ≡ frame_at slots slot
  unfolding frame_at
  frame_at_before slot before short =
      let start = slot * slot_length in
      let k = 2 + number_at (drop start slots) 0 2 in
      let fits : start + k ≤ at = omega (arith, number_at_drop slots start 2) in
      let all = length_over slots at bs room in
      framed_same (drop start slots) (drop start (over slots at bs)) (rw length-drop (omega arith)) (rw (length-drop, all) (omega arith))
      (sym (drop-take start k (over slots at bs) (rw all (omega arith)))
      ∙ ap (drop start) (take_over_before (start + k) slots at bs fits (omega arith))
      ∙ drop-take start k slots (omega arith))

  pub frame_at_behind : (slot : ℕ) → at + length bs ≤ slot * slot_length → frame_at (over slots at bs) slot ≡ frame_at slots slot
  unfolding frame_at
  frame_at_behind slot behind = ap framed (drop_over_behind (slot * slot_length) slots at bs behind (omega arith))

  pub frame_at_here : (slot : ℕ) → at ≡ slot * slot_length → 2 + number_at bs 0 2 ≤ length bs → frame_at (over slots at bs) slot ≡ framed bs
  unfolding frame_at
  frame_at_here slot e whole =
      let rest = drop (at + length bs) slots in
      rw (← e) (
      ap framed (drop_over_here slots at bs (omega arith))
      ∙ framed_same bs (bs ++ rest) (omega arith) (rw length-append (omega arith)) (take-append-le (2 + number_at bs 0 2) bs rest whole)
      )

-- ---- the two ways in which a slot is filled

-- a frame behind its length
pub framed-frame : (frame : List ℕ) → length frame ≤ buffer_length → framed (big_endian 2 (length frame) ++ frame) ≡ frame
framed-frame frame short =
    let n : number_at (big_endian 2 (length frame) ++ frame) 0 2 ≡ length frame = number_at_big_endian 2 (length frame) frame (omega arith) in
    framed_short (big_endian 2 (length frame) ++ frame) (omega (arith, n))
    ∙ ap (λ (k : ℕ). take k (drop 2 (big_endian 2 (length frame) ++ frame))) n
    ∙ ap (take (length frame)) (drop_at (big_endian 2 (length frame)) frame 2 (length-big_endian 2 (length frame)))
    ∙ take_all (length frame) frame (omega arith)

-- a length and a frame that stood in another slot
pub framed_slot : (slots : List ℕ) (slot : ℕ) → slot * slot_length + 2 + length_at slots slot ≤ length slots
    → framed (take (2 + length_at slots slot) (drop (slot * slot_length) slots)) ≡ frame_at slots slot
unfolding frame_at
framed_slot slots slot room =
    let start = slot * slot_length in
    let n = 2 + length_at slots slot in
    let same = number_at_drop slots start 2 in
    let size : length (take (2 + length_at slots slot) (drop (slot * slot_length) slots)) ≡ 2 + length_at slots slot
    = length-take-le n (drop start slots) (rw length-drop (omega arith)) in
    framed_same (drop start slots) (take n (drop start slots)) (rw length-drop (omega arith)) (omega (arith, size))
    (rw (← same) (take-take n n (drop start slots) (omega arith)))
