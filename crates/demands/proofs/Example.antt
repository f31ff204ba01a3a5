-- A small list of calls in a farm, so that nobody wonders whether any satisfies `Follows` and `Lawful`: the clock of panel 3 shows a wrong year,
-- in place, and is set back to 100, by value and then in place, which leaves it; it sends 4F 4B by value, which is case 1; then a beacon, in
-- place; and panel 0 hears the first frame, in place. Panel 1, which is of the old make, hears it too, and answers; and panel 0 hears the answer.
-- Assumes nothing.
use Prim.Native.Nat.{ℕ}
use mathlib.Core.Path.{◌≡◌, refl}
use mathlib.Core.Logic.{inl}
use mathlib.Core.List.Memᴰ.{head as first}
use mathlib.Core.List.Memᴰ.{tail as later}
use mathlib.Core.List.{List, [], ◌∷◌, ◌++◌}
use lib.ListN.{drop, replicate}
use denote.Ref.{Bor, MutBor}
use Rattle.std.specs.Prelude.{Ok}
use Rattle.rules.specs.Panel.{Name, old_make, none64, fresh, of_make}
use Rattle.rules.specs.Panel.{Panel as Record}
use Rattle.rules.specs.Results.{send, receive, defined}
use Rattle.rules.specs.Cases.{of, output, buffer, output_with, logged, frame_from, zeros4}
use Rattle.rules.specs.BenchCases.{deadline1, frame1, logged1, deadline2, frame2, logged2}
use Rattle.rules.specs.Lists.{Made, record_at, frames_sent, names_in, log_at, sends, Given, Lawful}
use Rattle.rules.proofs.BenchCases.{calls_opened}
use Rattle.rules.proofs.Shams.{hold, lifted, payload_bytes, empty_bytes}
use Rattle.slots.specs.Slots.{slots_length, held, up_from}
use Rattle.panel.specs.declared.Panel.{Panel}
use Rattle.demands.specs.Runs.{Run}
use Rattle.demands.specs.Functions.{Ran, panel_clock_parts, panel_set_back_parts, panel_set_back, panel_send, panel_beacon_parts, panel_receive_parts}
use Rattle.demands.specs.Lists.{FarmCall, module_call, other_call, farm, Follows}

-- something lent to be written, with this value
abbrev pub lent : {X : Type 0} → X → MutBor X
lent value = record { ref_ptr = (0, 0); ghost_name = 0; now = value }

-- something lent to be read, with this value
abbrev pub shared : {X : Type 0} → X → Bor X
shared value = record { ref_ptr = (0, 0); now = value }

abbrev pub zeros : List ℕ
zeros = replicate slots_length 0

-- the lifetime of something lent: nobody looks at it
abbrev pub some : List ℕ
some = []

-- panel 3 as a struct, by its time, high, marks and barrier
abbrev panel3 : ℕ → ℕ → List ℕ → List ℕ → Panel
panel3 time high marks barrier = record { own = 3; time = time; high = high; count = 0; marks = marks; barrier = barrier; slots = zeros; floor = 0 }

abbrev pub only3 : ℕ → List ℕ
only3 deadline = of ((3, deadline) ∷ [])

unfoldable pub opened : Unit {0}
unfolding calls_opened fresh frame1 frame2 held up_from record_at frames_sent sends names_in log_at Given
opened = tt

-- Each call: lifetimes, what is given, the answer, what is lent as the call ends, and that the promise holds of these.

-- panel 3's clock shows a wrong year
pub clocked : (run : Run) × Ran run
unfolding opened
clocked = (
  _,
  panel_clock_parts (
    (some, (some, (some, (some, (some, (some, (some, (some, tt)))))))),
    (3, (lent 0, (lent 0, (lent 0, (lent none64, (lent none64, (lent zeros, (lent 0, (4000000000, (lent output, tt)))))))))),
    record { count = 0; length = 0; number = 0 },
    (3, (lent 4000000000, (lent 0, (lent 0, (lent none64, (lent none64, (lent zeros, (lent 0, (4000000000, (lent output, tt)))))))))),
    (refl, λ refused. absurd (refused refl)),
    refl,
  ),
)

-- it is set back to 100
pub set_back_to100 : (run : Run) × Ran run
unfolding opened
set_back_to100 = (
  _,
  panel_set_back (
    tt,
    (panel3 4000000000 0 none64 none64, (100, tt)),
    record { panel = panel3 100 0 none64 none64; answer = Ok (record { count = 0; length = 0 }) },
    (panel3 4000000000 0 none64 none64, (100, tt)),
    (refl, λ refused. absurd (refused refl)),
    refl,
  ),
)

-- and once more, with a later reading: the time stays
pub set_back_again : (run : Run) × Ran run
unfolding opened
set_back_again = (
  _,
  panel_set_back_parts (
    (some, (some, tt)),
    (3, (lent 100, (0, (0, (shared none64, (shared none64, (shared zeros, (0, (200, tt))))))))),
    0,
    (3, (lent 100, (0, (0, (shared none64, (shared none64, (shared zeros, (0, (200, tt))))))))),
    (refl, λ refused. absurd (refused refl)),
    refl,
  ),
)

-- it sends 4F 4B with lifetime 0
pub sent : (run : Run) × Ran run
unfolding opened
sent = (
  _,
  panel_send (
    (some, (some, (some, tt))),
    (panel3 100 0 none64 none64, (shared (0x4f ∷ 0x4b ∷ []), (0, (lent output, (lent buffer, tt))))),
    record { panel = panel3 100 deadline1 (only3 deadline1) (only3 deadline1); answer = Ok (record { count = 1; length = 25 }) },
    (panel3 100 0 none64 none64, (shared (0x4f ∷ 0x4b ∷ []), (0, (lent (output_with (logged1 ∷ [])), (lent (frame1 ++ drop 25 buffer), tt))))),
    (refl, λ refused. absurd (refused refl)),
    refl,
  ),
)

-- then a beacon of no bytes: time + 1,200 is below high + 1, so it has the deadline and the frame of case 2
pub beaconed : (run : Run) × Ran run
unfolding opened
beaconed = (
  _,
  panel_beacon_parts (
    (some, (some, (some, (some, (some, (some, (some, (some, (some, tt))))))))),
    (3, (100, (lent deadline1, (lent 0, (lent (only3 deadline1), (lent (only3 deadline1), (lent zeros, (lent 0, (shared [], (lent output, (lent buffer, tt))))))))))),
    record { count = 1; length = 31; number = 0 },
    (3, (100, (lent deadline2, (lent 0, (lent (only3 deadline2), (lent (only3 deadline2), (lent zeros, (lent 0, (shared [], (lent (output_with (logged2 ∷ [])), (lent (frame2 ++ drop 31 buffer), tt))))))))))),
    (refl, λ refused. absurd (refused refl)),
    refl,
  ),
)

-- and panel 0 receives the first frame
unfoldable pub received : (run : Run) × Ran run
unfolding opened
received = (
  _,
  panel_receive_parts (
    (some, (some, (some, (some, (some, (some, (some, (some, tt)))))))),
    (0, (0, (lent 0, (lent 0, (lent none64, (lent none64, (lent zeros, (lent 0, (shared frame1, (lent output, tt)))))))))),
    record { count = 1; length = 0; number = 0 },
    (0, (0, (lent deadline1, (lent 0, (lent (only3 deadline1), (lent (only3 deadline1), (lent zeros, (lent 0, (shared frame1, (lent (output_with (logged1 ∷ [])), tt)))))))))),
    (refl, λ refused. absurd (refused refl)),
    refl,
  ),
)

-- panel 1 receives it too, and sends an empty payload; that panel is of the old make, and does as is defined for it
old1 : Record
old1 = of_make old_make (fresh 1)

old_heard : Made
old_heard = record { at = 1; make = old_make; call = receive frame1 output; result = defined old1 (receive frame1 output) }

old_sent : Made
old_sent =
    record { at = 1; make = old_make; call = send [] 0 output buffer; result = defined (of_make old_make old_heard.result.panel) (send [] 0 output buffer) }

-- its deadline is high + 1, and it names the note
answer_frame : List ℕ
answer_frame = frame_from (0x01 ∷ zeros4 (0x00 ∷ 0x00 ∷ 0x1c ∷ 0x85 ∷ replicate 7 0x00)) (0x08 ∷ zeros4 (0x00 ∷ 0x00 ∷ 0x1c ∷ 0x84 ∷ 0x00 ∷ []))

abbrev pub answer : Name
answer = record { source = 1; deadline = deadline2 }

-- and panel 0 receives the answer: the note leaves its barrier
answered : (run : Run) × Ran run
unfolding opened answer_frame
answered = (
  _,
  panel_receive_parts (
    (some, (some, (some, (some, (some, (some, (some, (some, tt)))))))),
    (0, (0, (lent deadline1, (lent 0, (lent (only3 deadline1), (lent (only3 deadline1), (lent zeros, (lent 0, (shared answer_frame, (lent output, tt)))))))))),
    record { count = 1; length = 0; number = 0 },
    (0, (0, (lent deadline2, (lent 0, (lent (of ((1, deadline2) ∷ (3, deadline1) ∷ [])), (lent (of ((1, deadline2) ∷ [])), (lent zeros, (lent 0, (shared answer_frame, (lent (output_with (logged (1 ∷ zeros4 (0x00 ∷ 0x00 ∷ 0x1c ∷ 0x85 ∷ 0 ∷ [])) ∷ [])), tt)))))))))),
    (refl, λ refused. absurd (refused refl)),
    refl,
  ),
)

-- ---- the lists

-- the calls of panel 3
unfoldable pub from3 : List FarmCall
from3 =
    module_call beaconed.0 ∷ module_call sent.0 ∷ module_call set_back_again.0 ∷ module_call set_back_to100.0 ∷ module_call clocked.0 ∷ []

unfoldable pub from3_opened : Unit {0}
unfolding opened clocked set_back_to100 set_back_again sent beaconed from3
from3_opened = tt

pub from3_follows : Follows from3
unfolding from3_opened
from3_follows = (refl, beaconed.1, (refl, sent.1, (refl, set_back_again.1, (refl, set_back_to100.1, (refl, clocked.1, tt)))))

pub from3_lawful : Lawful (farm from3)
unfolding from3_opened
from3_lawful = (empty_bytes, (payload_bytes, (tt, (tt, (tt, tt)))))

-- and then those of the others
pub example : List FarmCall
example = module_call answered.0 ∷ other_call old_sent ∷ other_call old_heard ∷ module_call received.0 ∷ from3

example_opened : Unit {0}
unfolding from3_opened received old1 old_heard old_sent answer_frame answered example
example_opened = tt

pub example_follows : Follows example
unfolding example_opened
example_follows = (refl, answered.1, (refl, (refl, (refl, received.1, from3_follows))))

pub example_lawful : Lawful (farm example)
unfolding example_opened
example_lawful =
    (inl (_, first refl, refl), (empty_bytes, (inl (_, later (first refl), refl), (inl (_, later (first refl), refl), from3_lawful))))

-- panel 3's log then holds its note and its beacon, and the other two logs the note and the answer
pub example_logs : (log_at 3 (farm example) ≡ hold ∷ lifted ∷ []) × (log_at 1 (farm example) ≡ hold ∷ answer ∷ [])
    × (log_at 0 (farm example) ≡ hold ∷ answer ∷ [])
unfolding example_opened hold lifted
example_logs = (refl, refl, refl)
