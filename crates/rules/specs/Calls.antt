-- Document 01, "The three calls", and document 02, W-207: what each call does where it is not turned down.
use Rattle.std.specs.Prelude.{ℕ, zero, suc, ◌+◌, min, max, cond, List, [], ◌∷◌, ◌++◌}
use Rattle.frame.specs.Message.{Message, message_of}
use Rattle.rules.specs.Panel.{Panel, none64, lapsed, ready}
use Rattle.rules.specs.Settling.{Settled, with_waiting, hand_then, settle}

-- a message is handed, and the panel settles
unfoldable pub hand_and_settle : Panel → Message → Settled
hand_and_settle p m = hand_then settle p m

-- ---- Send

-- Document 02, W-203: "From now on 0 means 7,200."
abbrev pub default_lifetime : ℕ
default_lifetime = 7200

-- Document 02, W-203: the status beacon's call "answers in everything as a send with lifetime 1,200".
abbrev pub beacon_lifetime : ℕ
beacon_lifetime = 1200

-- lifetime 0 means the default
abbrev pub lifetime_of : ℕ → ℕ
lifetime_of zero = default_lifetime
lifetime_of (suc n) = suc n

-- The deadline is the larger of time + lifetime and high + 1.
unfoldable pub send_deadline : Panel → ℕ → ℕ
send_deadline p lifetime = max (p.time + lifetime_of lifetime) (p.high + 1)

-- The frame carries the barrier entries as they are then.
unfoldable pub new_message : Panel → List ℕ → ℕ → Message
new_message p payload lifetime = message_of p.own (send_deadline p lifetime) p.barrier payload

-- the record with its barrier emptied
abbrev pub emptied : Panel → Panel
emptied p =
    record {
      own = p.own;
      time = p.time;
      high = p.high;
      marks = p.marks;
      barrier = none64;
      waiting = p.waiting;
      floor = p.floor;
      make = p.make;
    }

-- After that the barrier is emptied, the own message is handed, and the panel settles.
unfoldable pub sending : Panel → List ℕ → ℕ → Settled
sending p payload lifetime = hand_and_settle (emptied p) (new_message p payload lifetime)

-- ---- Receive

-- If it is ready it is handed without entering the list; otherwise it goes to the end of the list. Then the panel settles.
unfoldable pub receiving : Panel → Message → Settled
receiving p m = cond (ready p m) (hand_and_settle p m) (settle (with_waiting p (p.waiting ++ (m ∷ []))))

-- ---- Clock

-- the record with its time set
abbrev pub with_time : Panel → ℕ → Panel
with_time p time =
    record {
      own = p.own;
      time = time;
      high = p.high;
      marks = p.marks;
      barrier = p.barrier;
      waiting = p.waiting;
      floor = p.floor;
      make = p.make;
    }

-- the messages of the list that have not lapsed
unfoldable pub alive : Panel → List Message → List Message
alive p [] = []
alive p (m ∷ ms) = cond (lapsed p m.deadline) [] (m ∷ []) ++ alive p ms

-- the record without the lapsed waiting messages
abbrev pub drop_lapsed : Panel → Panel
drop_lapsed p = with_waiting p (alive p p.waiting)

-- The time is set, lapsed waiting messages are dropped, then the panel settles.
unfoldable pub clocking : Panel → ℕ → Settled
clocking p time = settle (drop_lapsed (with_time p time))

-- ---- Set back

-- Document 02, W-207: the service call "sets the time to the lower of its own and the reading, and hands and drops nothing".
unfoldable pub setting_back : Panel → ℕ → Settled
setting_back p reading = record { panel = with_time p (min p.time reading); handed = [] }
