-- Laws of `Bytes`: parts of bytes, bytes one after another, and the bytes of a number are bytes. Assumes nothing.
use mathlib.Core.List.{List, [], ◌∷◌, ◌++◌}
use Prim.Native.Nat.{ℕ, zero, suc, ◌+◌, ◌%◌, ◌^◌, ◌<◌}
use native.Mathlib.Nat.{pow-suc, mod-lt, div-lt_iff_lt-mul}
use native.Mathlib.Omega.{arith}
use lib.ListN.{get_or, take, drop}
use lib.Seq.{get_or-drop}
use Rattle.numbers.specs.Numbers.{Bytes, big_endian, big_endians}
use Rattle.numbers.proofs.BigEndian.{pow_pos}

pub Bytes-drop : (n : ℕ) (bs : List ℕ) → Bytes bs → Bytes (drop n bs)
Bytes-drop n bs b i = rw get_or-drop (b (n + i))

pub Bytes-take : (n : ℕ) (bs : List ℕ) → Bytes bs → Bytes (take n bs)
Bytes-take zero bs b i = omega arith
Bytes-take (suc n) [] b i = omega arith
Bytes-take (suc n) (x ∷ bs) b zero = b 0
Bytes-take (suc n) (x ∷ bs) b (suc i) = Bytes-take n bs (λ j. b (suc j)) i

pub Bytes-append : (xs ys : List ℕ) → Bytes xs → Bytes ys → Bytes (xs ++ ys)
Bytes-append [] ys a b i = b i
Bytes-append (x ∷ xs) ys a b zero = a 0
Bytes-append (x ∷ xs) ys a b (suc i) = Bytes-append xs ys (λ j. a (suc j)) b i

pub Bytes-big_endian : (width n : ℕ) → n < 256 ^ width → Bytes (big_endian width n)
unfolding big_endian
Bytes-big_endian zero n h i = omega arith
Bytes-big_endian (suc width) n h zero = (div-lt_iff_lt-mul (pow_pos width)).1 (omega (arith, pow-suc 256 width))
Bytes-big_endian (suc width) n h (suc i) = Bytes-big_endian width (n % 256 ^ width) (mod-lt n (pow_pos width)) i

pub Bytes-big_endians : (width : ℕ) (ns : List ℕ) → ((i : ℕ) → get_or ns i 0 < 256 ^ width) → Bytes (big_endians width ns)
unfolding big_endians
Bytes-big_endians width [] h = λ i. omega arith
Bytes-big_endians width (n ∷ ns) h =
    Bytes-append (big_endian width n) (big_endians width ns) (Bytes-big_endian width n (h 0)) (Bytes-big_endians width ns (λ i. h (suc i)))
