-- Document 01, "The panel record": settling.
use Rattle.std.specs.Prelude.{ℕ, zero, suc, Bool, true, false, cond, ◌&&◌, ◌||◌, List, [], ◌∷◌, ◌++◌, length, get_or, take, drop, ltb, eqb}
use Rattle.std.proofs.Math.Option.{Option, none, some}
use Rattle.frame.specs.Message.{Message, message_of}
use Rattle.rules.specs.Panel.{Panel, ready}
use Rattle.rules.specs.Handing.{hand}

-- of lower deadline, then of lower source
unfoldable pub sooner : Message → Message → Bool
sooner a b = ltb a.deadline b.deadline || eqb a.deadline b.deadline && ltb a.source b.source

-- the place chosen in m ∷ ms, where that in ms is given: that of m, the earliest, unless m is not ready or the one chosen in ms is sooner
unfoldable pub chosen : Bool → Message → List Message → Option ℕ → Option ℕ
chosen true m ms none = some 0
chosen true m ms (some later) = cond (sooner (get_or ms later m) m) (some (suc later)) (some 0)
chosen false m ms none = none
chosen false m ms (some later) = some (suc later)

-- the place of the ready one of lowest deadline (then lowest source, then earliest in the list); none where no message is ready
unfoldable pub choice : Panel → List Message → Option ℕ
choice p [] = none
choice p (m ∷ ms) = chosen (ready p m) m ms (choice p ms)

-- the list without what stands at a place
unfoldable pub without : ℕ → List Message → List Message
without place ms = take place ms ++ drop (suc place) ms

-- the record with another waiting list
abbrev pub with_waiting : Panel → List Message → Panel
with_waiting p ms =
    record {
      own = p.own;
      time = p.time;
      high = p.high;
      marks = p.marks;
      barrier = p.barrier;
      waiting = ms;
      floor = p.floor;
      make = p.make;
    }

-- a record, and the messages that were handed on the way to it, in order
pub record Settled : Type 0 where
  pub panel : Panel
  pub handed : List Message

-- the message at a place of the waiting list (past its end, where no choice lies, one that no frame carries)
abbrev pub waiting_at : Panel → ℕ → Message
waiting_at p place = get_or p.waiting place (message_of 0 0 [] [])

-- a message is handed, and settling goes on with the record that is left
abbrev pub hand_then : (Panel → Settled) → Panel → Message → Settled
hand_then settle p m =
    let rest = settle (hand p m) in
    record { panel = rest.panel; handed = m ∷ rest.handed }

-- the one at the place chosen leaves the list and is handed; where none is chosen, the record has settled
unfoldable pub go_on : (Panel → Settled) → Panel → Option ℕ → Settled
go_on settle p none = record { panel = p; handed = [] }
go_on settle p (some place) = hand_then settle (with_waiting p (without place p.waiting)) (waiting_at p place)

-- settling, where at most so many messages leave
unfoldable pub settle_in : ℕ → Panel → Settled
settle_in zero p = record { panel = p; handed = [] }
settle_in (suc n) p = go_on (settle_in n) p (choice p p.waiting)

-- Settling: while some waiting message is ready, the chosen one leaves the list and is handed. No more can leave than wait; `settle-done` shows
-- that none is ready at the end.
unfoldable pub settle : Panel → Settled
settle p = settle_in (length p.waiting) p
