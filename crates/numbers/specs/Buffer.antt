-- What a lent buffer holds after bytes have been put into it.
use Rattle.std.specs.Prelude.{ℕ, ◌+◌, List, ◌++◌, length, take, drop}

-- the buffer with the bytes bs from a place on; the bytes before and behind keep their content
unfoldable pub over : List ℕ → ℕ → List ℕ → List ℕ
over buffer at bs = take at buffer ++ bs ++ drop (at + length bs) buffer
