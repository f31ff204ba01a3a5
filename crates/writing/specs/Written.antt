-- What `write` answers and leaves in the lent buffer.
use Rattle.std.specs.Prelude.{ℕ, Bool, cond, ◌&&◌, List, ◌++◌, length, leb, Option, Some, None}
use Rattle.std.specs.Option.{unwrap_or}
use Rattle.numbers.specs.Numbers.{big_endian}
use Rattle.numbers.specs.Buffer.{over}
use Rattle.frame.specs.Message.{Message}
use Rattle.frame.specs.Frame.{mark, version_of, frame}
use Rattle.frame.specs.Readable.{readable}

-- the message has a frame, and the buffer room for it
unfoldable pub can_write : ℕ → Message → List ℕ → Bool
can_write width m buffer = readable width m && leb (length (frame width m)) (length buffer)

-- the frame at the start of the buffer, and the bytes behind as they were; else all bytes as they were
abbrev pub written : ℕ → Message → List ℕ → List ℕ
written width m buffer = cond (can_write width m buffer) (over buffer 0 (frame width m)) buffer

-- the length of the frame, where it is written
abbrev pub written_size : ℕ → Message → List ℕ → Option ℕ
written_size width m buffer = cond (can_write width m buffer) (Some (length (frame width m))) None

-- and 0 where it is not
abbrev pub written_length : ℕ → Message → List ℕ → ℕ
written_length width m buffer = unwrap_or (written_size width m buffer) 0

-- the fields of a frame up to its mask, one after another (only the private `put_head` cites it)
abbrev pub head_of : ℕ → ℕ → ℕ → ℕ → List ℕ
head_of width source deadline mask =
    big_endian 3 mark ++ big_endian 2 (version_of width) ++ big_endian 1 source ++ big_endian width deadline ++ big_endian 8 mask
