-- Document 02, W-207, of the words of demand 3: a panel's floor, what has lapsed there, and which messages count as taken there. Each word is a
-- function of a list of calls, and none is read off a record.
use Rattle.std.specs.Prelude.{ℕ, ◌≤◌, ◌<◌, max, ◌⊎◌, Bool, false, cond, not, ◌&&◌, ◌||◌, List, [], ◌∷◌, ◌++◌, map, eqb}
use Rattle.frame.specs.Reading.{message_from}
use Rattle.rules.specs.Panel.{Name, has_lapsed}
use Rattle.rules.specs.Handing.{missed}
use Rattle.rules.specs.Results.{Call, send, receive, clock, set_back, Result}
use Rattle.rules.specs.Lists.{Made, on, if_done, frames_taken, name_in, names_in, log_at, time_at, Sent, sends}

-- ---- a panel's floor: "counted from the frames sent and from time and log at each handing"

-- the same source and deadline
abbrev pub same_name : Name → Name → Bool
same_name x y = eqb x.source y.source && eqb x.deadline y.deadline

-- from the frames sent: the entries of a message are those of the frame that carries it
unfoldable pub entries_sent : List Sent → Name → List ℕ
entries_sent [] n = []
entries_sent (s ∷ sent) n = cond (same_name (name_in s.frame) n) (message_from s.frame).entries (entries_sent sent n)

-- from the log: the mark of a panel is the largest deadline from that source; 0 means none
unfoldable pub mark_in : List Name → ℕ → ℕ
mark_in [] source = 0
mark_in (n ∷ log) source = max (cond (eqb n.source source) n.deadline 0) (mark_in log source)

-- A message is handed, where time, floor and log are these: the floor rises to the largest of the message's entries that had lapsed and that the
-- mark of the entry's panel had not reached.
unfoldable pub floor_handed : List Sent → ℕ → ℕ → List Name → Name → ℕ
floor_handed sent time floor log n = max floor (missed time floor (mark_in log) (entries_sent sent n))

-- messages are handed, one after another, each going to the end of the log
unfoldable pub floor_after : List Sent → ℕ → ℕ → List Name → List Name → ℕ
floor_after sent time floor log [] = floor
floor_after sent time floor log (n ∷ handed) = floor_after sent time (floor_handed sent time floor log n) (log ++ (n ∷ [])) handed

-- A panel's floor, 0 at first: each call there hands the messages of the log records that it wrote, at the time that it leaves.
unfoldable pub floor_at : ℕ → List Made → ℕ
floor_at panel [] = 0
floor_at panel (made ∷ earlier) =
    cond (on panel made)
    (floor_after (sends (made ∷ earlier)) (time_at panel (made ∷ earlier)) (floor_at panel earlier) (log_at panel earlier)
    (names_in made.result.count made.result.output))
    (floor_at panel earlier)

-- ---- lapsed

-- Lapsed at a panel is a deadline below that time or at most that floor.
abbrev pub LapsedAt : ℕ → List Made → Name → Type 0
LapsedAt panel list n = (n.deadline < time_at panel list) ⊎ (n.deadline ≤ floor_at panel list)

-- ---- taken

-- the message is one of the list
unfoldable pub is_one_of : Name → List Name → Bool
is_one_of n [] = false
is_one_of n (x ∷ names) = same_name n x || is_one_of n names

-- those of the messages taken that a clock call with this reading does not drop: they stand in the log, or have not lapsed
unfoldable pub not_dropped : List Name → ℕ → ℕ → List Name → List Name
not_dropped log time floor [] = []
not_dropped log time floor (n ∷ taken) =
    cond (is_one_of n log || not (has_lapsed time floor n.deadline)) (n ∷ []) [] ++ not_dropped log time floor taken

-- the messages that still count as taken after a call, where log, floor and messages taken were these: only a clock call drops
unfoldable pub still_taken : List Name → ℕ → List Name → Call → Result → List Name
still_taken log floor taken (send payload lifetime output buffer) result = taken
still_taken log floor taken (receive bytes output) result = taken
still_taken log floor taken (clock time output) result = if_done result (not_dropped log time floor taken) taken
still_taken log floor taken (set_back reading) result = taken

-- Taken at a panel: a receive of the message's frame there was not refused. "A message dropped while waiting counts as taken only from when it is
-- next taken."
unfoldable pub taken_at : ℕ → List Made → List Name
taken_at panel [] = []
taken_at panel (made ∷ earlier) =
    cond (on panel made)
    (map name_in (frames_taken made.call made.result)
    ++ still_taken (log_at panel earlier) (floor_at panel earlier) (taken_at panel earlier) made.call made.result)
    (taken_at panel earlier)
