-- Laws of `big_endian` and `number`: they undo each other, for every width. Assumes nothing.
use mathlib.Core.Path.{◌≡◌, refl, sym, ap, ◌∙◌, subst}
use mathlib.Core.List.{List, [], ◌∷◌, ◌++◌, append_assoc, append-nil}
use Rattle.std.specs.Int.{w64, byte_at, bytes_high_first, to_be_bytes}
use Prim.Native.Nat.{ℕ, zero, suc, ◌+◌, ◌-◌, ◌*◌, ◌/◌, ◌%◌, ◌^◌, ◌≤◌, ◌<◌}
use native.Mathlib.Nat.{add-mul, mul_assoc, mul-zero, mul-suc, pow-suc, pow-le-pow_right, mul_comm, zero-add, suc-add, mod-eq_of_lt, mod-lt, div-add-mod', one-le-pow, zero-lt-suc}
use native.Mathlib.Omega.{arith}
use lib.ListN.{length, get_or, take, drop, length-append, length-drop}
use lib.Arith.{digits_lt, digits_div, digits_mod, lt-one, mod-mul}
use lib.Pow.{pow-add, field, mod-mod-pow, shr_mod}
use lib.Seq.{take_all}
use Rattle.numbers.specs.Numbers.{Bytes, big_endian, big_endians, number}

pub pow_pos : (width : ℕ) → 0 < 256 ^ width
pow_pos width = one-le-pow width 256 (zero-lt-suc 255)

-- a width of at most 8 bytes fits 64 bits
pub pow-le : (width : ℕ) → width ≤ 8 → 256 ^ width ≤ 2 ^ 64
pow-le width h = pow-le-pow_right (zero-lt-suc 255) h

-- a number of so many bytes, and one of some bytes more behind it
pub pow-lt-add : (width more n m : ℕ) → n < 256 ^ width → m < 256 ^ more → n * 256 ^ more + m < 256 ^ (width + more)
pow-lt-add width more n m h hm = rw (pow-add 256 width more) (digits_lt h hm)

pub length-big_endian : (width n : ℕ) → length (big_endian width n) ≡ width
unfolding big_endian
length-big_endian zero n = refl
length-big_endian (suc width) n = ap suc (length-big_endian width (n % 256 ^ width))

-- ---- there and back

pub number-big_endian : (width n : ℕ) → n < 256 ^ width → number (big_endian width n) ≡ n
unfolding big_endian number
number-big_endian zero n h = sym (lt-one h)
number-big_endian (suc width) n h =
    rw (length-big_endian width (n % 256 ^ width), number-big_endian width (n % 256 ^ width) (mod-lt n (pow_pos width)))
    (div-add-mod' n (256 ^ width))

pub number_lt : (bs : List ℕ) → Bytes bs → number bs < 256 ^ length bs
unfolding number
number_lt [] b = omega arith
number_lt (x ∷ bs) b = omega (arith, pow-suc 256 (length bs), digits_lt (b 0) (number_lt bs (λ i. b (suc i))))

pub big_endian-number : (bs : List ℕ) → Bytes bs → big_endian (length bs) (number bs) ≡ bs
unfolding big_endian number
big_endian-number [] b = refl
big_endian-number (x ∷ bs) b =
    let r = number_lt bs (λ i. b (suc i)) in rw (digits_div x r, digits_mod x r, big_endian-number bs (λ i. b (suc i)))

-- ---- part by part, and byte by byte

pub number_append : (xs ys : List ℕ) → number (xs ++ ys) ≡ number xs * 256 ^ length ys + number ys
unfolding number
number_append [] ys = omega arith
number_append (x ∷ xs) ys =
    let a = 256 ^ length xs in
    let b = 256 ^ length ys in
    let long : 256 ^ length (xs ++ ys) ≡ 256 ^ length xs * 256 ^ length ys =
    ap (λ (n : ℕ). 256 ^ n) (length-append xs ys) ∙ pow-add 256 (length xs) (length ys) in
    rw (long, number_append xs ys)
    (omega (arith, mul_assoc x a b, add-mul (x * a) (number xs) b))

pow_256 : (j : ℕ) → 256 ^ j ≡ 2 ^ (8 * j)
pow_256 zero = refl
pow_256 (suc j) =
    pow-suc 256 j ∙ ap (λ (x : ℕ). x * 256) (pow_256 j) ∙ sym (pow-add 2 (8 * j) 8) ∙ ap (λ (x : ℕ). 2 ^ x) (sym (mul-suc 8 j))

-- the byte at i, with j bytes behind it
pub get_or-big_endian : (i j width n : ℕ) → i + suc j ≡ width → n < 256 ^ width → get_or (big_endian width n) i 0 ≡ n / 2 ^ (8 * j) % 256
unfolding big_endian
get_or-big_endian i j zero n e h = absurd (omega arith)
get_or-big_endian zero j (suc width) n e h =
    let q : 8 * suc width ≡ 8 + 8 * j = omega arith in
    let h' : n < 2 ^ (8 + 8 * j) = subst (λ (x : ℕ). n < x) (pow_256 (suc width) ∙ ap (λ (x : ℕ). 2 ^ x) q) h in
    let r : width ≡ j = omega arith in
    ap (λ (x : ℕ). n / x) (pow_256 width ∙ ap (λ (x : ℕ). 2 ^ (8 * x)) r) ∙ sym (shr_mod 8 (8 * j) h')
get_or-big_endian (suc i) j (suc width) n e h =
    let q : 256 ^ width ≡ 2 ^ ((8 * i + 8) + 8 * j) = pow_256 width ∙ ap (λ (x : ℕ). 2 ^ x) (omega arith) in
    get_or-big_endian i j width (n % 256 ^ width) (omega arith) (mod-lt n (pow_pos width))
    ∙ ap (λ (x : ℕ). n % x / 2 ^ (8 * j) % 256) q
    ∙ ap (λ (x : ℕ). x % 256) (field n (8 * i + 8) (8 * j))
    ∙ mod-mod-pow (n / 2 ^ (8 * j)) (8 * i) 8

-- ---- as the numbers of 64 bits have their bytes

-- byte i of a number, counted from the lowest
byte_is : (i n : ℕ) → byte_at i n ≡ n / 256 ^ i % 256
byte_is zero n = omega arith
byte_is (suc i) n = refl

-- the lowest bytes of a number are the number that they count
lowest_bytes : (width n : ℕ) → bytes_high_first width n ≡ big_endian width (n % 256 ^ width)
unfolding big_endian
lowest_bytes zero n = refl
lowest_bytes (suc width) n =
    let low : n % 256 ^ width < 256 ^ width = mod-lt n (pow_pos width) in
    let all : n % 256 ^ suc width ≡ (n / 256 ^ width % 256) * 256 ^ width + n % 256 ^ width =
    ap (λ (m : ℕ). n % m) (pow-suc 256 width ∙ mul_comm (256 ^ width) 256) ∙ mod-mul n (zero-lt-suc 255) (pow_pos width) in
    rw (all, digits_div (n / 256 ^ width % 256) low, digits_mod (n / 256 ^ width % 256) low, byte_is width n, lowest_bytes width n) refl

drop_bytes : (more width n : ℕ) → drop more (bytes_high_first (more + width) n) ≡ bytes_high_first width n
drop_bytes zero width n = rw zero-add refl
drop_bytes (suc more) width n = rw suc-add (drop_bytes more width n)

-- the last of the eight bytes are the number where it fits them
pub last_bytes : (width n : ℕ) → width ≤ 8 → n < 256 ^ width → take (8 - (8 - width)) (drop (8 - width) (to_be_bytes w64 n)) ≡ big_endian width n
last_bytes width n le fits =
    let e : 8 - width + width ≡ 8 = omega arith in
    take_all (8 - (8 - width)) (drop (8 - width) (to_be_bytes w64 n)) (rw length-drop (omega arith))
    ∙ ap (λ (k : ℕ). drop (8 - width) (bytes_high_first k n)) (sym e)
    ∙ drop_bytes (8 - width) width n
    ∙ lowest_bytes width n
    ∙ ap (big_endian width) (mod-eq_of_lt fits)

-- ---- numbers one after another

pub length-big_endians : (width : ℕ) (ns : List ℕ) → length (big_endians width ns) ≡ width * length ns
unfolding big_endians
length-big_endians width [] = sym (mul-zero width)
length-big_endians width (n ∷ ns) = rw (length-append, length-big_endian, length-big_endians width ns, mul-suc) (omega arith)

pub big_endians-snoc : (width : ℕ) (ns : List ℕ) (n : ℕ) → big_endians width (ns ++ (n ∷ [])) ≡ big_endians width ns ++ big_endian width n
unfolding big_endians
big_endians-snoc width [] n = append-nil (big_endian width n)
big_endians-snoc width (m ∷ ns) n =
    rw (big_endians-snoc width ns n) (sym (append_assoc (big_endian width m) (big_endians width ns) (big_endian width n)))
