-- Lists with a set-back call: what log, floor and messages taken are as counted; and a module without a floor, which breaks demand 3. Panel 3 sends
-- a hold, which is case 1; panel 1 hears it and sends its lifting; and panel 0 hears both. Assumes nothing.
use Prim.Native.Nat.{ℕ, ◌+◌}
use mathlib.Core.Path.{◌≡◌, refl}
use mathlib.Core.Logic.{inl}
use mathlib.Core.List.Memᴰ.{head as first}
use mathlib.Core.List.Memᴰ.{tail as later}
use mathlib.Core.List.{List, [], ◌∷◌}
use lib.ListN.{replicate}
use Rattle.rules.specs.Panel.{Name, Make, new_make, Panel}
use Rattle.rules.specs.Results.{Call, send, receive, clock, set_back, Result, defined}
use Rattle.rules.specs.Lists.{Made, log_at, time_at, direct, Lawful, ran}
use Rattle.rules.specs.Lapsing.{floor_at, taken_at}
use Rattle.rules.specs.Demand3.{NoneAhead}
use Rattle.rules.specs.Cases.{with_floor, output, buffer, frame_from, zeros4}
use Rattle.rules.specs.BenchCases.{deadline1, frame1, deadline2}
use Rattle.rules.proofs.Shams.{hold, lists_opened, payload_bytes, empty_bytes}

-- the lifting: its deadline is high + 1, and it names the hold
lifted_frame : List ℕ
lifted_frame = frame_from (0x01 ∷ zeros4 (0x00 ∷ 0x00 ∷ 0x1c ∷ 0x85 ∷ replicate 7 0x00)) (0x08 ∷ zeros4 (0x00 ∷ 0x00 ∷ 0x1c ∷ 0x84 ∷ 0x00 ∷ []))

abbrev pub lifting : Name
lifting = record { source = 1; deadline = deadline2 }

-- both are sent
abbrev both_sent : List (ℕ × Make × Call)
both_sent =
    (1, new_make, send [] 0 output buffer) ∷ (1, new_make, receive frame1 output)
    ∷ (3, new_make, send (0x4f ∷ 0x4b ∷ []) deadline1 output buffer) ∷ []

-- ---- the log goes without the hold

-- panel 0 hears the lifting, the clock passes the hold and is set back, and panel 0 hears the hold
pub passed : (Panel → Call → Result) → List Made
passed gives =
    ran gives
    ((0, new_make, receive frame1 output) ∷ (0, new_make, set_back 100) ∷ (0, new_make, clock deadline2 output)
    ∷ (0, new_make, receive lifted_frame output) ∷ both_sent)

-- the hold is turned down: the floor has passed it
pub floor_passed : let list = passed defined in
    (log_at 0 list ≡ lifting ∷ []) × (taken_at 0 list ≡ lifting ∷ []) × (time_at 0 list ≡ 100) × (floor_at 0 list ≡ deadline1)
unfolding lists_opened frame1 lifted_frame passed
floor_passed = (refl, refl, refl, refl)

-- a module without a floor: it is 0 at each call
pub without_floor : Panel → Call → Result
without_floor p call = defined (with_floor 0 p) call

pub passed_lawful : Lawful (passed without_floor)
unfolding lists_opened frame1 lifted_frame without_floor passed
passed_lawful =
    (inl (_, later (first refl), refl), (tt, (tt, (inl (_, first refl, refl), (empty_bytes, (inl (_, first refl, refl), (payload_bytes, tt)))))))

-- It takes the hold, behind its lifting.
pub without_a_floor_breaks : ¬ NoneAhead (passed without_floor)
unfolding lists_opened frame1 lifted_frame hold without_floor passed
without_a_floor_breaks none_ahead = none_ahead 0 lifting hold (inl (refl, first refl)) (direct _ (first refl) refl (first refl))

-- ---- both are dropped

-- the clock passes both, and is set back
abbrev dropping : List (ℕ × Make × Call)
dropping =
    (0, new_make, set_back 100) ∷ (0, new_make, clock (deadline2 + 1) output) ∷ (0, new_make, receive lifted_frame output) ∷ both_sent

pub dropped : List Made
dropped = ran defined dropping

-- and both are heard again
pub taken_again : List Made
taken_again = ran defined ((0, new_make, receive frame1 output) ∷ (0, new_make, receive lifted_frame output) ∷ dropping)

-- the lifting, dropped while it waited, does not count as taken, and the log went without nothing
pub dropped_not_taken : (log_at 0 dropped ≡ []) × (taken_at 0 dropped ≡ []) × (floor_at 0 dropped ≡ 0)
unfolding lists_opened frame1 lifted_frame dropped
dropped_not_taken = (refl, refl, refl)

-- it does from when it is next taken
pub dropped_taken_again : (log_at 0 taken_again ≡ hold ∷ lifting ∷ []) × (taken_at 0 taken_again ≡ hold ∷ lifting ∷ [])
unfolding lists_opened frame1 lifted_frame hold taken_again
dropped_taken_again = (refl, refl)
