-- Document 01, "The panel record", and document 02, W-207: the record, a fresh panel, lapsed, ready.
use Rattle.std.specs.Prelude.{ℕ, zero, suc, Bool, true, ◌&&◌, ◌||◌, List, [], get_or, replicate, leb, ltb}
use Rattle.frame.specs.Message.{Message}

-- A message is known by its source and deadline.
pub record Name : Type 0 where
  pub source : ℕ
  pub deadline : ℕ

abbrev pub name_of : Message → Name
name_of m = record { source = m.source; deadline = m.deadline }

-- Document 02, W-204: "Old and new panels share a farm." A panel of the new make shortens its barrier as it hands a message.
pub data Make : Type 0 where
  old_make : Make
  new_make : Make

-- Own number; time; high; 64 marks; 64 barrier entries; up to 32 waiting messages in the order taken, each with the fields and payload of its
-- frame; floor. A mark is the largest deadline in this panel's log from that source; 0 means none. A barrier entry of 0 means that the source has
-- no entry. (In the field's terms: the marks are the registry of what was delivered, the barrier is the causal barrier, waiting is pending.)
-- Messages of a deadline at most the floor count as lapsed, whatever the time: the log may have gone without them.
-- Beside them stands the make of the panel that works on the record, as handing goes by it. (It is in no byte: the module's panels are of the
-- new make.)
pub record Panel : Type 0 where
  pub own : ℕ
  pub time : ℕ
  pub high : ℕ
  pub marks : List ℕ
  pub barrier : List ℕ
  pub waiting : List Message
  pub floor : ℕ
  pub make : Make

-- 64 marks or barrier entries, all 0
unfoldable pub none64 : List ℕ
none64 = replicate 64 0

-- A fresh panel has time 0, high 0, all marks and barrier entries 0, nothing waiting, and floor 0. (Its make is the module's; in a list each call
-- brings that of its panel.)
unfoldable pub fresh : ℕ → Panel
fresh own = record { own = own; time = 0; high = 0; marks = none64; barrier = none64; waiting = []; floor = 0; make = new_make }

-- the record, as a panel of that make works on it
abbrev pub of_make : Make → Panel → Panel
of_make make p =
    record {
      own = p.own;
      time = p.time;
      high = p.high;
      marks = p.marks;
      barrier = p.barrier;
      waiting = p.waiting;
      floor = p.floor;
      make = make;
    }

-- Document 02, W-207: "Lapsed now means a deadline below the time or at most the floor." One that is equal to the time, and above the floor, is
-- alive.
unfoldable pub has_lapsed : ℕ → ℕ → ℕ → Bool
has_lapsed time floor deadline = ltb deadline time || leb deadline floor

-- at a panel, it is by its time and its floor
unfoldable pub lapsed : Panel → ℕ → Bool
lapsed p deadline = has_lapsed p.time p.floor deadline

-- an entry is met: the mark of its panel is at least the entry, or the entry has lapsed
unfoldable pub met : Panel → ℕ → ℕ → Bool
met p panel entry = leb entry (get_or p.marks panel 0) || lapsed p entry

-- the test passes for each panel of a number below n
unfoldable pub each_panel : ℕ → (ℕ → Bool) → Bool
each_panel zero test = true
each_panel (suc n) test = each_panel n test && test n

-- Ready: each entry of the message is met. (An entry of 0, which is none, is met by any mark.)
unfoldable pub ready : Panel → Message → Bool
ready p m = each_panel 64 (λ panel. met p panel (get_or m.entries panel 0))
