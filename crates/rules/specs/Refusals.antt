-- Document 01, "Turned down because of the input", "Turned down because of the state", and their order; document 02, W-205 and W-207.
use Rattle.std.specs.Prelude.{ℕ, ◌+◌, ◌≡◌, ◌⊎◌, Bool, true, false, cond, not, ◌&&◌, ◌||◌, List, [], ◌∷◌, ◌++◌, length, get_or, leb, ltb, eqb}
use Rattle.frame.specs.Message.{Message}
use Rattle.frame.specs.Refusal.{first_of}
use Rattle.frame.specs.Reading.{checks, width_in, message_from}
use Rattle.frame.specs.Readable.{each_below, readable}
use Rattle.rules.specs.Sizes.{width, last_deadline, output_length, buffer_length}
use Rattle.rules.specs.Panel.{Panel, fresh, lapsed, ready}
use Rattle.rules.specs.Calls.{send_deadline}

-- ---- 26

-- some number of the list is above a limit
abbrev pub some_above : ℕ → List ℕ → Bool
some_above limit ns = not (each_below (limit + 1) ns)

-- a readable frame carries each message of the list
unfoldable pub each_readable : List Message → Bool
each_readable [] = true
each_readable (m ∷ ms) = readable width m && each_readable ms

-- 26: the record has
unfoldable pub broken : Panel → Bool
broken p =
    ltb 63 p.own  -- an own number above 63,
    || some_above p.high p.marks  -- a mark
    || some_above p.high p.barrier  -- or barrier entry above high,
    || ltb 32 (length p.waiting)  -- over 32 waiting,
    || not (each_readable p.waiting)  -- or a waiting message that no readable frame carries

-- ---- 22

-- a message of that source and deadline is in the list
unfoldable pub is_waiting : Message → List Message → Bool
is_waiting m [] = false
is_waiting m (w ∷ ws) = eqb m.source w.source && eqb m.deadline w.deadline || is_waiting m ws

-- ---- 32

-- Document 02, W-205: "A received deadline above time + 1,209,600 (14 days) is now refused."
abbrev pub farthest_ahead : ℕ
farthest_ahead = 1209600

-- Too far ahead: deadline above that sum, taken without wrapping. A deadline equal to the sum is not.
unfoldable pub too_far_ahead : Panel → ℕ → Bool
too_far_ahead p deadline = ltb (p.time + farthest_ahead) deadline

-- ---- 11

-- the number for a panel number above 63 asked of a fresh panel; 0 for any other
unfoldable pub fresh_number : ℕ → ℕ
fresh_number own = first_of ((ltb 63 own, 11) ∷ [])

-- the record that comes with it is a fresh panel 0
unfoldable pub fresh_record : ℕ → Panel
fresh_record own = cond (ltb 63 own) (fresh 0) (fresh own)

-- ---- the checks of each call, in order, each with its number

-- Send: 26, 10, 9, 24
unfoldable pub send_checks : Panel → List ℕ → ℕ → List ℕ → List ℕ → List (Bool × ℕ)
send_checks p payload lifetime output buffer =
    (broken p, 26)
    ∷ (ltb (length output) output_length || ltb (length buffer) buffer_length, 10)  -- output under 1,386 bytes, or the frame buffer under 567
    ∷ (ltb 32 (length payload), 9)  -- payload to send longer than 32
    ∷ (ltb last_deadline (send_deadline p lifetime), 24)  -- the deadline of a send would pass 18,446,744,073,709,551,615
    ∷ []

-- those of a message that was read: 20, 21, 32, 22, 23
unfoldable pub message_checks : Panel → Message → List (Bool × ℕ)
message_checks p m =
    (eqb m.source p.own, 20)  -- the frame's source is the own number
    ∷ (lapsed p m.deadline, 21)  -- the message has lapsed
    ∷ (too_far_ahead p m.deadline, 32)  -- its deadline is too far ahead
    ∷ (leb m.deadline (get_or p.marks m.source 0) || is_waiting m p.waiting, 22)  -- at most its source's mark, or waiting already
    ∷ (leb 32 (length p.waiting) && not (ready p m), 23)  -- 32 are waiting and this one is not ready
    ∷ []

-- Receive: 26, 10, 1 to 8, 20, 21, 32, 22, 23
unfoldable pub receive_checks : Panel → List ℕ → List ℕ → List (Bool × ℕ)
receive_checks p bytes output =
    (broken p, 26) ∷ (ltb (length output) output_length, 10) ∷ (checks (width_in bytes) bytes ++ message_checks p (message_from bytes))

-- Clock: 26, 10, 25
unfoldable pub clock_checks : Panel → ℕ → List ℕ → List (Bool × ℕ)
clock_checks p time output =
    (broken p, 26)
    ∷ (ltb (length output) output_length, 10)
    ∷ (ltb time p.time, 25)  -- the clock reading is below the panel's time
    ∷ []

-- Set back: 26. (Document 02, W-207: "The service call answers 26 as the others do.")
unfoldable pub set_back_checks : Panel → List (Bool × ℕ)
set_back_checks p = (broken p, 26) ∷ []

-- the numbers of document 01's two lists, 1 to 11 and 20 to 26, and 32 of document 02
abbrev pub is_refusal : ℕ → Bool
is_refusal n = leb 1 n && leb n 11 || leb 20 n && leb n 26 || eqb n 32

-- what a call may answer: 0, or one of these numbers
abbrev pub Listed : ℕ → Type 0
Listed n = (n ≡ 0) ⊎ (is_refusal n ≡ true)
