-- Words, numbers and bytes as text, in ASCII.
use Rattle.std.specs.Prelude.{ℕ, zero, suc, ◌+◌, ◌/◌, ◌%◌, cond, List, [], ◌∷◌, ◌++◌, ltb}
use Prim.Native.Char.{code}
use Prim.Native.String.{String, [] as nothing, ◌∷◌ as ◌then◌}

-- the codes of a text's characters
unfoldable pub ascii : String → List ℕ
ascii nothing = []
ascii (c then s) = code c ∷ ascii s

-- the digit of a number below 16, in lower case: 0 has the code 48, a the code 97
unfoldable pub digit : ℕ → ℕ
digit d = cond (ltb d 10) (48 + d) (87 + d)

-- a number in decimal with at most so many digits: below 10 it is one, else the last digit stands behind the others
unfoldable pub decimal_in : ℕ → ℕ → List ℕ
decimal_in zero n = []
decimal_in (suc most) n = cond (ltb n 10) (digit n ∷ []) (decimal_in most (n / 10) ++ (digit (n % 10) ∷ []))

-- a number of 64 bits in decimal, which has at most 20 digits; numbers have no leading zeros
abbrev pub decimal : ℕ → List ℕ
decimal n = decimal_in 20 n

-- bytes in lower-case hexadecimal, two digits each
unfoldable pub hexadecimal : List ℕ → List ℕ
hexadecimal [] = []
hexadecimal (b ∷ bs) = digit (b / 16) ∷ digit (b % 16) ∷ hexadecimal bs
