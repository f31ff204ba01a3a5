-- Document 01, "What the module covers": numbers of several bytes have the highest byte first.
use Rattle.std.specs.Prelude.{ℕ, zero, suc, ◌+◌, ◌*◌, ◌/◌, ◌%◌, ◌^◌, ◌<◌, List, [], ◌∷◌, ◌++◌, length, get_or, take, drop}

-- each number of the list is a byte
abbrev pub Bytes : List ℕ → Type 0
Bytes bs = (i : ℕ) → get_or bs i 0 < 256

-- the number n in so many bytes
unfoldable pub big_endian : ℕ → ℕ → List ℕ
big_endian zero n = []
big_endian (suc width) n = n / 256 ^ width ∷ big_endian width (n % 256 ^ width)

-- the numbers ns one after another, each in so many bytes
unfoldable pub big_endians : ℕ → List ℕ → List ℕ
big_endians width [] = []
big_endians width (n ∷ ns) = big_endian width n ++ big_endians width ns

-- the number that the bytes bs are
unfoldable pub number : List ℕ → ℕ
number [] = 0
number (b ∷ bs) = b * 256 ^ length bs + number bs

-- the number in so many bytes of bs from a place on
unfoldable pub number_at : List ℕ → ℕ → ℕ → ℕ
number_at bs at width = number (take width (drop at bs))

-- the numbers, count of them, that stand one after another in bs from a place on, each in so many bytes
unfoldable pub numbers_at : List ℕ → ℕ → ℕ → ℕ → List ℕ
numbers_at bs at width zero = []
numbers_at bs at width (suc count) = number_at bs at width ∷ numbers_at bs (at + width) width count
