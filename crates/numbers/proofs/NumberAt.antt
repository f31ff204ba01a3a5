-- Laws of `number_at` and `numbers_at`: numbers at places of a list of bytes, for every width. Assumes nothing.
use mathlib.Core.Path.{◌≡◌, refl, sym, ap, ◌∙◌, subst}
use mathlib.Core.List.{List, [], ◌∷◌, ◌++◌, append_assoc}
use Prim.Native.Nat.{ℕ, zero, suc, ◌+◌, ◌*◌, ◌^◌, ◌≤◌, ◌<◌}
use native.Mathlib.Nat.{add_assoc, add_comm, add-zero, zero-add, mul-zero, mul-suc}
use native.Mathlib.Omega.{arith}
use lib.ListN.{length, get_or, take, drop, length-drop}
use lib.Seq.{length-take-le, take_at, drop_at, drop-drop, take-add, drop-cons}
use Rattle.numbers.specs.Numbers.{Bytes, big_endian, big_endians, number, number_at, numbers_at}
use Rattle.numbers.proofs.Bytes.{Bytes-drop, Bytes-take}
use Rattle.numbers.proofs.BigEndian.{length-big_endian, number-big_endian, big_endian-number, number_lt, number_append}

-- ---- the number at a place, and its bytes

module _ (bs : List ℕ) (at width : ℕ) (b : Bytes bs) (room : at + width ≤ length bs) where
  part : List ℕ
  part = take width (drop at bs)

  part_length : length part ≡ width
  unfolding part
  part_length = length-take-le width (drop at bs) (rw length-drop (omega arith))

  part_bytes : Bytes part
  unfolding part
  part_bytes = Bytes-take width (drop at bs) (Bytes-drop at bs b)

  pub big_endian_number_at : big_endian width (number_at bs at width) ≡ take width (drop at bs)
  unfolding number_at part
  big_endian_number_at = subst (λ (n : ℕ). big_endian n (number part) ≡ part) part_length (big_endian-number part part_bytes)

  pub number_at_lt : number_at bs at width < 256 ^ width
  unfolding number_at part
  number_at_lt = subst (λ (n : ℕ). number part < 256 ^ n) part_length (number_lt part part_bytes)

pub number_at_big_endian : (width n : ℕ) (rest : List ℕ) → n < 256 ^ width → number_at (big_endian width n ++ rest) 0 width ≡ n
unfolding number_at
number_at_big_endian width n rest h = rw (take_at (big_endian width n) rest width (length-big_endian width n)) (number-big_endian width n h)

drop-big_endian : (width n : ℕ) (rest : List ℕ) → drop width (big_endian width n ++ rest) ≡ rest
drop-big_endian width n rest = drop_at (big_endian width n) rest width (length-big_endian width n)

-- a place is one of what stands from there on
pub number_at_drop : (bs : List ℕ) (at width : ℕ) → number_at bs at width ≡ number_at (drop at bs) 0 width
unfolding number_at
number_at_drop bs at width = refl

-- ---- part by part, and byte by byte

pub number_at_zero : (bs : List ℕ) (at : ℕ) → number_at bs at 0 ≡ 0
unfolding number_at number
number_at_zero bs at = refl

-- a number, and some bytes more behind it
pub number_at_add : (bs : List ℕ) (at width more : ℕ) → at + width + more ≤ length bs
    → number_at bs at (width + more) ≡ number_at bs at width * 256 ^ more + number_at bs (at + width) more
unfolding number_at
number_at_add bs at width more h =
    let l : length (take more (drop (at + width) bs)) ≡ more = length-take-le more (drop (at + width) bs) (rw length-drop (omega arith)) in
    rw (take-add width more (drop at bs), drop-drop width at bs, number_append, l)

-- a number of one byte is the byte
pub number_at_one : (bs : List ℕ) (at : ℕ) → at < length bs → number_at bs at 1 ≡ get_or bs at 0
unfolding number_at number
number_at_one bs at h = rw (drop-cons bs at 0 h) (omega arith)

pub number_at_suc : (bs : List ℕ) (at i : ℕ) → at + i < length bs → number_at bs at (i + 1) ≡ number_at bs at i * 256 + get_or bs (at + i) 0
number_at_suc bs at i h = number_at_add bs at i 1 (omega arith) ∙ ap (λ (b : ℕ). number_at bs at i * 256 + b) (number_at_one bs (at + i) h)

-- ---- numbers one after another

pub length-numbers_at : (bs : List ℕ) (at width count : ℕ) → length (numbers_at bs at width count) ≡ count
unfolding numbers_at
length-numbers_at bs at width zero = refl
length-numbers_at bs at width (suc count) = ap suc (length-numbers_at bs (at + width) width count)

-- the number at i stands behind i numbers
pub get_or-numbers_at : (bs : List ℕ) (at width count i : ℕ) → i < count → get_or (numbers_at bs at width count) i 0 ≡ number_at bs (at + width * i) width
unfolding numbers_at
get_or-numbers_at bs at width zero i h = absurd (omega arith)
get_or-numbers_at bs at width (suc count) zero h = rw (mul-zero, add-zero)
get_or-numbers_at bs at width (suc count) (suc i) h =
    let e : at + width + width * i ≡ at + width * suc i = omega (arith, mul-suc width i) in
    rw (get_or-numbers_at bs (at + width) width count i (omega arith), e)

numbers_at-add : (bs : List ℕ) (at more width count : ℕ) → numbers_at bs (at + more) width count ≡ numbers_at (drop at bs) more width count
unfolding numbers_at number_at
numbers_at-add bs at more width zero = refl
numbers_at-add bs at more width (suc count) = rw (← drop-drop more at bs, add_assoc, numbers_at-add bs at (more + width) width count)

pub numbers_at-drop : (bs : List ℕ) (at width count : ℕ) → numbers_at bs at width count ≡ numbers_at (drop at bs) 0 width count
numbers_at-drop bs at width count = ap (λ (n : ℕ). numbers_at bs n width count) (sym (add-zero at)) ∙ numbers_at-add bs at 0 width count

-- one number more, at the end
pub numbers_at-snoc : (bs : List ℕ) (at width count : ℕ)
    → numbers_at bs at width (suc count) ≡ numbers_at bs at width count ++ (number_at bs (at + width * count) width ∷ [])
unfolding numbers_at
numbers_at-snoc bs at width zero = rw (mul-zero, add-zero)
numbers_at-snoc bs at width (suc count) =
    let place : at + width + width * count ≡ at + width * suc count = rw mul-suc (omega arith) in
    ap (λ (l : List ℕ). number_at bs at width ∷ l)
    (numbers_at-snoc bs (at + width) width count
    ∙ ap (λ (n : ℕ). numbers_at bs (at + width) width count ++ (number_at bs n width ∷ [])) place)

-- numbers written one after another are read back
pub numbers_at-big_endians : (width : ℕ) (ns rest : List ℕ) → ((i : ℕ) → get_or ns i 0 < 256 ^ width)
    → numbers_at (big_endians width ns ++ rest) 0 width (length ns) ≡ ns
unfolding numbers_at big_endians
numbers_at-big_endians width [] rest h = refl
numbers_at-big_endians width (n ∷ ns) rest h =
    ap (λ (l : List ℕ). numbers_at l 0 width (suc (length ns))) (append_assoc (big_endian width n) (big_endians width ns) rest)
    ∙ rw (
      number_at_big_endian width n (big_endians width ns ++ rest) (h 0),
      zero-add,
      numbers_at-drop (big_endian width n ++ (big_endians width ns ++ rest)) width width (length ns),
      drop-big_endian width n (big_endians width ns ++ rest),
      numbers_at-big_endians width ns rest (λ i. h (suc i)),
    )

-- numbers that were read are written as the bytes that they were read from
pub big_endians-numbers_at : (bs : List ℕ) (at width count : ℕ) → Bytes bs → at + width * count ≤ length bs
    → big_endians width (numbers_at bs at width count) ≡ take (width * count) (drop at bs)
unfolding numbers_at big_endians
big_endians-numbers_at bs at width zero b h = rw mul-zero
big_endians-numbers_at bs at width (suc count) b h =
    let h' : at + width + width * count ≤ length bs = omega (arith, mul-suc width count) in
    rw (
      mul-suc,
      add_comm (width * count) width,
      take-add width (width * count),
      drop-drop width at bs,
      big_endian_number_at bs at width b (omega arith),
      big_endians-numbers_at bs (at + width) width count b h',
    )
