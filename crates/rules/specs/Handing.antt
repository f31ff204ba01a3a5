-- Document 01, "The panel record", and document 02, W-204 and W-207: handing a message (the field's causal delivery), and its log record.
use Rattle.std.specs.Prelude.{ℕ, zero, suc, ◌-◌, max, cond, ◌&&◌, List, [], ◌∷◌, ◌++◌, length, get_or, set, replicate, leb, ltb}
use Rattle.numbers.specs.Numbers.{big_endian}
use Rattle.frame.specs.Message.{Message}
use Rattle.rules.specs.Sizes.{width}
use Rattle.rules.specs.Panel.{Make, old_make, new_make, Panel, has_lapsed}

-- the number of the message's source becomes the larger of itself and its deadline
unfoldable pub raise : List ℕ → Message → List ℕ
raise numbers m = set numbers m.source (max (get_or numbers m.source 0) m.deadline)

-- what is left of a barrier entry beside the entry of a message for the same panel: none, which is 0, if it is at most that one
abbrev pub remains : ℕ → ℕ → ℕ
remains b entry = cond (leb b entry) 0 b

-- what is left of a barrier beside the entries of a message. (Where the message has none, which is 0, the barrier's entry stays.)
unfoldable pub shortened : List ℕ → List ℕ → List ℕ
shortened [] entries = []
shortened (b ∷ barrier) [] = b ∷ barrier
shortened (b ∷ barrier) (entry ∷ entries) = remains b entry ∷ shortened barrier entries

-- Document 02, W-204: "When a message is handed, each barrier entry that is at most the entry this message carries for the same panel is
-- removed, before the message's own goes in." A panel of the old make removes none.
unfoldable pub barrier_for : Make → Panel → Message → List ℕ
barrier_for old_make p m = p.barrier
barrier_for new_make p m = shortened p.barrier m.entries

-- the largest of the numbers that panels of a number below n have
unfoldable pub largest : ℕ → (ℕ → ℕ) → ℕ
largest zero number = 0
largest (suc n) number = max (largest n number) (number n)

-- an entry, if it has lapsed by this time and floor and the mark of its panel has not reached it; else 0
abbrev pub missed_entry : ℕ → ℕ → ℕ → ℕ → ℕ
missed_entry time floor mark entry = cond (has_lapsed time floor entry && ltb mark entry) entry 0

-- Document 02, W-207: "The largest of the message's entries that had lapsed and that the mark of the entry's panel had not reached"; 0 where there
-- is none.
unfoldable pub missed : ℕ → ℕ → (ℕ → ℕ) → List ℕ → ℕ
missed time floor mark entries = largest 64 (λ panel. missed_entry time floor (mark panel) (get_or entries panel 0))

-- at a panel, it is by its time, floor and marks
abbrev pub missed_at : Panel → List ℕ → ℕ
missed_at p entries = missed p.time p.floor (λ panel. get_or p.marks panel 0) entries

-- Handing: barrier entries are removed (`barrier_for`); then the mark and the barrier entry of its source each become the larger of themselves and
-- its deadline; high becomes the larger of itself and the deadline; the floor rises to the largest entry that was missed, by the marks before this
-- handing. (One log record is written to the output: `done` writes those of all messages handed.)
unfoldable pub hand : Panel → Message → Panel
hand p m =
    record {
      own = p.own;
      time = p.time;
      high = max p.high m.deadline;
      marks = raise p.marks m;
      barrier = raise (barrier_for p.make p m) m;
      waiting = p.waiting;
      floor = max p.floor (missed_at p m.entries);
      make = p.make;
    }

-- A log record has 42 bytes:
unfoldable pub log_record : Message → List ℕ
log_record m =
    big_endian 1 m.source  -- source 1,
    ++ big_endian width m.deadline  -- deadline 8,
    ++ big_endian 1 (length m.payload)  -- length 1,
    ++ m.payload  -- payload 32
    ++ replicate (32 - length m.payload) 0  -- with zeros after its end

-- Log records stand one after another.
unfoldable pub log_records : List Message → List ℕ
log_records [] = []
log_records (m ∷ ms) = log_record m ++ log_records ms
