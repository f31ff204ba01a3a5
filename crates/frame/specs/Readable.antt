-- Which messages have a frame: those that some readable frame carries (`readable_iff` of `Theorems` shows that these are the ones).
use Rattle.std.specs.Prelude.{ℕ, ◌^◌, Bool, true, ◌&&◌, List, [], ◌∷◌, length, ltb, leb, eqb}
use Rattle.frame.specs.Message.{Message}

-- each number of the list is below a limit
unfoldable pub each_below : ℕ → List ℕ → Bool
each_below limit [] = true
each_below limit (n ∷ ns) = ltb n limit && each_below limit ns

-- the message fits the fields of a frame
unfoldable pub readable : ℕ → Message → Bool
readable width m =
    ltb m.source 64  -- source 0 to 63
    && ltb 0 m.deadline  -- deadline at least 1
    && ltb m.deadline (256 ^ width)  -- and within its width
    && eqb (length m.entries) 64  -- an entry or 0 for each of 64 panels
    && each_below m.deadline m.entries  -- each below the deadline
    && leb (length m.payload) 32  -- payload length 0 to 32
    && each_below 256 m.payload  -- the payload is bytes
