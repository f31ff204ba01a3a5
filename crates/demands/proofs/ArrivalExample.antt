-- Two orders of arrival on the module's own records and bytes, so that nobody wonders whether any satisfies `AllHeard`: panel 3 has sent a note and a
-- beacon that names it, and panel 0 hears them in place in the order sent, and by value and in place the other way round, the beacon then as version 1.
-- Assumes nothing.
use Prim.Native.Nat.{ℕ, ◌-◌}
use mathlib.Core.Path.{◌≡◌, refl, sym, ap, ◌∙◌}
use mathlib.Core.List.Memᴰ.{head as first}
use mathlib.Core.List.Memᴰ.{tail as later}
use mathlib.Core.List.{List, [], ◌∷◌, ◌++◌}
use lib.ListN.{replicate}
use Rattle.std.specs.Prelude.{Ok}
use Rattle.frame.specs.Reading.{reading, reading_of}
use Rattle.rules.specs.Panel.{new_make, none64}
use Rattle.rules.specs.Results.{receive}
use Rattle.rules.specs.Cases.{output, output_with}
use Rattle.rules.specs.VersionCases.{narrow2}
use Rattle.rules.specs.BenchCases.{deadline1, frame1, logged1, deadline2, frame2, logged2}
use Rattle.rules.specs.Lists.{sends, CarriesSent}
use Rattle.slots.specs.Slots.{slots_length, framed, frame_at, carried}
use Rattle.panel.specs.declared.Panel.{Panel}
use Rattle.arrivals.specs.Arrival.{EachIn, Heard, AllHeard, SameEnd}
use Rattle.arrivals.proofs.Shams.{taken_heard}
use Rattle.demands.specs.Runs.{Run, made_of}
use Rattle.demands.specs.Functions.{Ran, panel_receive_parts, panel_receive}
use Rattle.demands.specs.Lists.{FarmCall, module_call, farm, Follows}
use Rattle.demands.proofs.Arriving.{farm_arrival_order}
use Rattle.demands.proofs.Example.{lent, shared, zeros, some, only3, opened, received, from3, from3_opened, from3_follows, from3_lawful}

-- the note, and then the beacon
beacon_then : (run : Run) × Ran run
unfolding opened
beacon_then = (
  _,
  panel_receive_parts (
    (some, (some, (some, (some, (some, (some, (some, (some, tt)))))))),
    (0, (0, (lent deadline1, (lent 0, (lent (only3 deadline1), (lent (only3 deadline1), (lent zeros, (lent 0, (shared frame2, (lent output, tt)))))))))),
    record { count = 1; length = 0; number = 0 },
    (0, (0, (lent deadline2, (lent 0, (lent (only3 deadline2), (lent (only3 deadline2), (lent zeros, (lent 0, (shared frame2, (lent (output_with (logged2 ∷ [])), tt)))))))))),
    (refl, λ refused. absurd (refused refl)),
    refl,
  ),
)

-- panel 0 as a struct, with so many waiting
abbrev panel0 : ℕ → List ℕ → Panel
panel0 count slots = record { own = 0; time = 0; high = 0; count = count; marks = none64; barrier = none64; slots = slots; floor = 0 }

-- the first slot has the beacon's frame, of version 2
abbrev beacon_waits : List ℕ
beacon_waits = 0x00 ∷ 0x1f ∷ (frame2 ++ replicate (slots_length - 33) 0)

-- the beacon first, as version 1: it waits
beacon_first : (run : Run) × Ran run
unfolding opened narrow2 reading framed frame_at carried
beacon_first = (
  _,
  panel_receive (
    (some, (some, tt)),
    (panel0 0 zeros, (shared narrow2, (lent output, tt))),
    record { panel = panel0 1 beacon_waits; answer = Ok (record { count = 0; length = 0 }) },
    (panel0 0 zeros, (shared narrow2, (lent output, tt))),
    (refl, λ refused. absurd (refused refl)),
    refl,
  ),
)

-- and then the note: both are handed
note_then : (run : Run) × Ran run
unfolding opened reading framed frame_at carried
note_then = (
  _,
  panel_receive_parts (
    (some, (some, (some, (some, (some, (some, (some, (some, tt)))))))),
    (0, (0, (lent 0, (lent 1, (lent none64, (lent none64, (lent beacon_waits, (lent 0, (shared frame1, (lent output, tt)))))))))),
    record { count = 2; length = 0; number = 0 },
    (0, (0, (lent deadline2, (lent 0, (lent (only3 deadline2), (lent (only3 deadline2), (lent beacon_waits, (lent 0, (shared frame1, (lent (output_with (logged1 ∷ logged2 ∷ [])), tt)))))))))),
    (refl, λ refused. absurd (refused refl)),
    refl,
  ),
)

-- ---- the lists

pub note_first : List FarmCall
note_first = module_call beacon_then.0 ∷ module_call received.0 ∷ []

pub note_last : List FarmCall
note_last = module_call note_then.0 ∷ module_call beacon_first.0 ∷ []

lists_opened : Unit {0}
unfolding from3_opened received beacon_then narrow2 reading framed frame_at carried beacon_first note_then note_first note_last
lists_opened = tt

first_follows : Follows (note_first ++ from3)
unfolding lists_opened
first_follows = (refl, beacon_then.1, (refl, received.1, from3_follows))

last_follows : Follows (note_last ++ from3)
unfolding lists_opened
last_follows = (refl, note_then.1, (refl, beacon_first.1, from3_follows))

-- ---- they are two orders of receiving the same frames, but for the version

-- the frames are those of the beacon and of the note
beacon_sent : CarriesSent (sends (farm from3)) frame2
unfolding lists_opened
beacon_sent = (_, first refl, refl)

narrow-sent : CarriesSent (sends (farm from3)) narrow2
unfolding lists_opened
narrow-sent = (_, first refl, refl)

note_sent : CarriesSent (sends (farm from3)) frame1
unfolding lists_opened
note_sent = (_, later (first refl), refl)

reads_alike : reading_of narrow2 ≡ reading_of frame2
unfolding lists_opened
reads_alike = refl

there : EachIn (frame2 ∷ frame1 ∷ []) (frame1 ∷ narrow2 ∷ [])
there frame (first e) = (narrow2, later (first refl), reads_alike ∙ ap (λ (bs : List ℕ). reading_of bs) (sym e))
there frame (later (first e)) = (frame1, first refl, ap (λ (bs : List ℕ). reading_of bs) (sym e))
there frame (later (later k)) = elim k [ ]

back : EachIn (frame1 ∷ narrow2 ∷ []) (frame2 ∷ frame1 ∷ [])
back frame (first e) = (frame1, later (first refl), ap (λ (bs : List ℕ). reading_of bs) (sym e))
back frame (later (first e)) = (frame2, first refl, sym reads_alike ∙ ap (λ (bs : List ℕ). reading_of bs) (sym e))
back frame (later (later k)) = elim k [ ]

-- a receive of the module at panel 0, which is not refused
heard : (frame : List ℕ) (run : Run) → CarriesSent (sends (farm from3)) frame → run.given.own ≡ 0
    → run.call ≡ receive frame output → run.answer.number ≡ 0 → Heard (sends (farm from3)) 0 new_make frame (made_of run)
heard frame run sent own receives taken = taken_heard 0 new_make frame (made_of run) sent own refl receives taken

first_heard : AllHeard (sends (farm from3)) 0 new_make (frame2 ∷ frame1 ∷ []) (farm note_first)
unfolding lists_opened
first_heard = (heard frame2 beacon_then.0 beacon_sent refl refl refl, (heard frame1 received.0 note_sent refl refl refl, tt))

last_heard : AllHeard (sends (farm from3)) 0 new_make (frame1 ∷ narrow2 ∷ []) (farm note_last)
unfolding lists_opened
last_heard = (heard frame1 note_then.0 note_sent refl refl refl, (heard narrow2 beacon_first.0 narrow-sent refl refl refl, tt))

-- So they end alike.
pub example_alike : SameEnd 0 (farm (note_first ++ from3)) (farm (note_last ++ from3))
example_alike =
    farm_arrival_order from3 from3_follows from3_lawful 0 new_make (frame2 ∷ frame1 ∷ []) (frame1 ∷ narrow2 ∷ []) (there, back) note_first note_last
    first_follows last_follows first_heard last_heard
