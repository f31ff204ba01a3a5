-- `widening::widen` meets its contract: the parts that it puts are those of the frame of version 2. Assumes nothing.
use mathlib.Core.Path.{◌≡◌, sym, ap, ap₂, ◌∙◌}
use mathlib.Core.List.{List, ◌++◌}
use Prim.Native.Nat.{ℕ, ◌+◌, ◌-◌, ◌*◌, ◌^◌, ◌≤◌, ◌<◌}
use native.Mathlib.Omega.{arith}
use lib.Count.{ones_in, ones, ones-le}
use lib.ListN.{length, get_or, take, drop, length-drop}
use lib.Seq.{take_all}
use Rattle.numbers.specs.Numbers.{Bytes, big_endian, big_endians, numbers_at}
use Rattle.numbers.specs.Buffer.{over}
use Rattle.numbers.proofs.NumberAt.{number_at_one}
use Rattle.frame.specs.Frame.{narrow, wide}
use Rattle.frame.specs.Reading.{source_in, deadline_in, mask_in, count_in, entries_in, payload_place, refusal}
use Rattle.frame.proofs.Entries.{ones_in_ones}
use Rattle.frame.proofs.Passed.{Passed, zero_passed}
use Rattle.writing.specs.Written.{head_of}
use Rattle.widening.proofs.Widened.{wide-length, wide-parts}
use Rattle.widening.proofs.widen.Goals as goal

-- what is known of the bytes, of the count of their entries, and of the part that the payload is
module _ (bs : List ℕ) (mask : ℕ) (zero : refusal narrow bs ≡ 0) (read : mask ≡ mask_in narrow bs) (fits : mask < 2 ^ 64) where
  passed : Passed narrow bs
  passed = zero_passed narrow bs zero

  counted : ones mask ≡ count_in narrow bs
  counted = sym (ones_in_ones 64 mask fits) ∙ ap (ones_in 64) read

  few : ones mask ≤ 64
  few = ones-le 64 mask fits

  -- where the payload stands, and how long it is
  placed : (14 + narrow + narrow * ones mask + 1 ≡ payload_place narrow bs) × (payload_place narrow bs ≤ length bs)
      × (length bs - payload_place narrow bs ≤ 32)
  placed = (omega (arith, counted), passed.room, omega (arith, passed.whole, passed.payload))

  -- the payload as it is lent
  abbrev start : ℕ
  start = 14 + narrow + narrow * ones mask + 1

  part : take (length bs - start) (drop start bs) ≡ drop (payload_place narrow bs) bs
  part =
      rw placed.0
      (take_all (length bs - payload_place narrow bs) (drop (payload_place narrow bs) bs) (rw length-drop (omega arith)))

  length_part : length (take (length bs - start) (drop start bs)) ≡ length bs - payload_place narrow bs
  length_part = ap length part ∙ length-drop (payload_place narrow bs) bs

pub number_at-mask-requires : goal.number_at-mask-requires
number_at-mask-requires c = omega (arith, (zero_passed narrow c.args.frame.now c.requires.0).room)

pub bounds-frame-5 : goal.bounds-frame-5
bounds-frame-5 c = omega (arith, (zero_passed narrow c.args.frame.now c.requires.0).room)

pub number_at-requires : goal.number_at-requires
number_at-requires c = omega (arith, (zero_passed narrow c.args.frame.now c.requires.0).room)

pub widen_entries-requires : goal.widen_entries-requires
widen_entries-requires c =
    let m = c.number_at-mask in
    let p = placed c.args.frame.now m.result c.requires.0 m.ensures.0 m.ensures.1 in
    let f = few c.args.frame.now m.result c.requires.0 m.ensures.0 m.ensures.1 in
    (omega (arith, p), omega (arith, f))

pub slice_bounds-put_payload-count : goal.slice_bounds-put_payload-count
slice_bounds-put_payload-count c =
    let m = c.number_at-mask in
    omega (arith, placed c.args.frame.now m.result c.requires.0 m.ensures.0 m.ensures.1)

pub slice_bounds-put_payload-start : goal.slice_bounds-put_payload-start
slice_bounds-put_payload-start c =
    let m = c.number_at-mask in
    omega (arith, placed c.args.frame.now m.result c.requires.0 m.ensures.0 m.ensures.1)

pub put_payload-requires : goal.put_payload-requires
put_payload-requires c =
    let m = c.number_at-mask in
    let p = placed c.args.frame.now m.result c.requires.0 m.ensures.0 m.ensures.1 in
    let f = few c.args.frame.now m.result c.requires.0 m.ensures.0 m.ensures.1 in
    let l = length_part c.args.frame.now m.result c.requires.0 m.ensures.0 m.ensures.1 in
    (omega (arith, l, p), omega (arith, l, p, f))

pub overflow_sub-result : goal.overflow_sub-result
overflow_sub-result c =
    let m = c.number_at-mask in
    omega (arith, placed c.args.frame.now m.result c.requires.0 m.ensures.0 m.ensures.1)

pub overflow_add-result-2 : goal.overflow_add-result-2
overflow_add-result-2 c =
    let m = c.number_at-mask in
    omega (
      arith,
      few c.args.frame.now m.result c.requires.0 m.ensures.0 m.ensures.1,
      placed c.args.frame.now m.result c.requires.0 m.ensures.0 m.ensures.1,
    )

pub returns : goal.returns
returns c =
    let m = c.number_at-mask in
    let bs = c.args.frame.now in
    let buffer = c.args.buffer.now in
    let zero = c.requires.0 in
    let bytes : Bytes bs = λ i. omega (arith, c.type_inv.frame i) in
    let n = counted bs m.result zero m.ensures.0 m.ensures.1 in
    let source : get_or bs 5 0 ≡ source_in bs = sym (number_at_one bs 5 (omega (arith, (zero_passed narrow bs zero).room))) in
    let headed : c.put_head.new.buffer ≡ over buffer 0 (head_of wide (source_in bs) (deadline_in narrow bs) (mask_in narrow bs)) =
    c.put_head.ensures
    ∙ ap (λ (k : ℕ). over buffer 0 (head_of wide k c.number_at.result m.result)) source
    ∙ ap₂ (λ (d k : ℕ). over buffer 0 (head_of wide (source_in bs) d k)) c.number_at.ensures.0 m.ensures.0 in
    let at = 14 + wide + wide * ones m.result in
    let end = big_endian 1 (length (drop (payload_place narrow bs) bs)) ++ drop (payload_place narrow bs) bs in (
      omega (
        arith,
        wide-length bs bytes zero,
        n,
        placed bs m.result zero m.ensures.0 m.ensures.1,
        length-drop (payload_place narrow bs) bs,
      ),
      c.put_payload.ensures
          ∙ ap (λ (x : List ℕ). over c.widen_entries.new.buffer at (big_endian 1 (length x) ++ x)) (part bs m.result zero m.ensures.0 m.ensures.1)
          ∙ ap (λ (x : List ℕ). over x at end) c.widen_entries.ensures
          ∙ ap (λ (k : ℕ). over (over c.put_head.new.buffer (14 + wide) (big_endians wide (numbers_at bs (14 + narrow) narrow k))) at end) n
          ∙ ap (λ (x : List ℕ). over (over x (14 + wide) (big_endians wide (entries_in narrow bs))) at end) headed
          ∙ wide-parts bs bytes zero buffer at c.requires.1 (omega (arith, n)),
    )
