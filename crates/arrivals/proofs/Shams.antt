-- What W-206 says is no empty word: a module that settles one message at most in each receive breaks it. Panel 3 sends three messages, each of which
-- names the one before, and panel 0 hears them in the order sent, and the other way round. Assumes nothing.
use Prim.Native.Nat.{ℕ}
use native.Mathlib.Omega.{arith}
use mathlib.Core.Path.{◌≡◌, refl}
use mathlib.Core.Bool.{cond}
use mathlib.Core.List.Memᴰ.{head as first}
use mathlib.Core.List.Memᴰ.{tail as later}
use mathlib.Core.List.{List, [], ◌∷◌, ◌++◌, reverse_perm}
use lib.ListN.{replicate, length-replicate}
use Rattle.frame.specs.Refusal.{first_of}
use Rattle.frame.specs.Reading.{message_from}
use Rattle.rules.specs.Sizes.{output_length}
use Rattle.rules.specs.Panel.{Make, new_make, Panel, ready}
use Rattle.rules.specs.Settling.{with_waiting, Settled, hand_then, settle_in}
use Rattle.rules.specs.Refusals.{receive_checks}
use Rattle.rules.specs.Results.{Call, send, receive, clock, set_back, Result, refused, done, unless, defined}
use Rattle.rules.specs.Lists.{Made, given_to, Sent, sends, CarriesSent, Given, ran}
use Rattle.rules.specs.Cases.{output, buffer, frame_from, zeros4}
use Rattle.rules.specs.BenchCases.{deadline1, frame1, frame2}
use Rattle.rules.proofs.Shams.{lists_opened, payload_bytes, empty_bytes}
use Rattle.arrivals.specs.Arrival.{Heard, AllHeard, SameFrames, SameEnd}
use Rattle.arrivals.proofs.Sets.{permuted_frames}
use Rattle.arrivals.proofs.Arrival.{arrival_order}

-- ---- the module

abbrev settle_one : Panel → Settled
settle_one = settle_in 1

pub settles_one : Panel → Call → Result
settles_one p (send payload lifetime output buffer) = defined p (send payload lifetime output buffer)
settles_one p (receive bytes output) =
    let m = message_from bytes in
    unless (first_of (receive_checks p bytes output)) (refused p output [])
    (done (cond (ready p m) (hand_then settle_one p m) (settle_one (with_waiting p (p.waiting ++ (m ∷ []))))) output [] [])
settles_one p (clock time output) = defined p (clock time output)
settles_one p (set_back reading) = defined p (set_back reading)

-- ---- the lists

-- the third message names the second
pub frame3 : List ℕ
frame3 = frame_from (0x03 ∷ zeros4 (0x00 ∷ 0x00 ∷ 0x1c ∷ 0x86 ∷ replicate 7 0x00)) (0x08 ∷ zeros4 (0x00 ∷ 0x00 ∷ 0x1c ∷ 0x85 ∷ 0x00 ∷ []))

pub three_sent : (Panel → Call → Result) → List Made
three_sent gives =
    ran gives
    ((3, new_make, send [] 0 output buffer) ∷ (3, new_make, send [] 0 output buffer)
    ∷ (3, new_make, send (0x4f ∷ 0x4b ∷ []) deadline1 output buffer) ∷ [])

-- panel 0 hears this frame
abbrev pub heard_next : (Panel → Call → Result) → List ℕ → List Made → Made
heard_next gives frame earlier =
    let call = receive frame output in
    record { at = 0; make = new_make; call = call; result = gives (given_to 0 new_make (earlier ++ three_sent gives)) call }

-- and these, the latest first
pub hears : (Panel → Call → Result) → List (List ℕ) → List Made
hears gives [] = []
hears gives (frame ∷ frames) = heard_next gives frame (hears gives frames) ∷ hears gives frames

pub as_sent : List (List ℕ)
as_sent = frame3 ∷ frame2 ∷ frame1 ∷ []

pub reversed : List (List ℕ)
reversed = frame1 ∷ frame2 ∷ frame3 ∷ []

shams_opened : Unit {0}
unfolding lists_opened frame1 frame2 frame3 settles_one three_sent hears as_sent reversed
shams_opened = tt

-- ---- they are lists that W-206 speaks of

pub same_frames : SameFrames as_sent reversed
unfolding as_sent reversed
same_frames = permuted_frames (reverse_perm (frame1 ∷ frame2 ∷ frame3 ∷ []))

-- a receive of a frame that was sent, with the output of the cases, which is not refused
pub taken_heard : {ss : List Sent} (panel : ℕ) (make : Make) (frame : List ℕ) (made : Made) → CarriesSent ss frame
    → made.at ≡ panel → made.make ≡ make → made.call ≡ receive frame output → made.result.number ≡ 0 → Heard ss panel make frame made
taken_heard panel make frame made sent at of_make receives taken =
    record {
      there = at;
      of_make = of_make;
      output = output;
      receives = receives;
      was_sent = sent;
      long_enough = omega (arith, length-replicate {A = ℕ} output_length 7);
      not_23 = λ e. omega (arith, e, taken);
    }

abbrev SentBy : (Panel → Call → Result) → List ℕ → Type 0
SentBy gives frame = CarriesSent (sends (three_sent gives)) frame

abbrev TakenBy : (Panel → Call → Result) → List ℕ → List (List ℕ) → Type 0
TakenBy gives frame earlier = (heard_next gives frame (hears gives earlier)).result.number ≡ 0

heard_next_lem : (gives : Panel → Call → Result) (frame : List ℕ) (earlier : List (List ℕ)) → SentBy gives frame → TakenBy gives frame earlier
    → Heard (sends (three_sent gives)) 0 new_make frame (heard_next gives frame (hears gives earlier))
heard_next_lem gives frame earlier sent taken = taken_heard 0 new_make frame (heard_next gives frame (hears gives earlier)) sent refl refl refl taken

-- both orders, of a module with these frames that refuses none of the receives
abbrev pub BothHeard : (Panel → Call → Result) → Type 0
BothHeard gives =
    AllHeard (sends (three_sent gives)) 0 new_make as_sent (hears gives as_sent) × AllHeard (sends (three_sent gives)) 0 new_make reversed (hears gives reversed)

both_heard : (gives : Panel → Call → Result) → SentBy gives frame1 × SentBy gives frame2 × SentBy gives frame3
    → TakenBy gives frame1 [] × TakenBy gives frame2 (frame1 ∷ []) × TakenBy gives frame3 (frame2 ∷ frame1 ∷ [])
    → TakenBy gives frame3 [] × TakenBy gives frame2 (frame3 ∷ []) × TakenBy gives frame1 (frame2 ∷ frame3 ∷ []) → BothHeard gives
unfolding hears as_sent reversed
both_heard gives (sent1, sent2, sent3) (a1, a2, a3) (b3, b2, b1) =
    let next = heard_next_lem gives in (
      (next frame3 (frame2 ∷ frame1 ∷ []) sent3 a3, (next frame2 (frame1 ∷ []) sent2 a2, (next frame1 [] sent1 a1, tt))),
      (next frame1 (frame2 ∷ frame3 ∷ []) sent1 b1, (next frame2 (frame3 ∷ []) sent2 b2, (next frame3 [] sent3 b3, tt))),
    )

pub one_heard : BothHeard settles_one
unfolding shams_opened
one_heard =
    both_heard settles_one ((_, later (later (first refl)), refl), (_, later (first refl), refl), (_, first refl, refl)) (refl, refl, refl) (refl, refl, refl)

-- ---- and they end otherwise: the third message waits though it is ready

pub settling_one_breaks : ¬ SameEnd 0 (hears settles_one as_sent ++ three_sent settles_one) (hears settles_one reversed ++ three_sent settles_one)
unfolding shams_opened
settling_one_breaks same = elim ((same.waiting.same _).1 (first refl)) [ ]

-- ---- With the defined results all is as the theorem says.

pub defined_heard : BothHeard defined
unfolding shams_opened
defined_heard =
    both_heard defined ((_, later (later (first refl)), refl), (_, later (first refl), refl), (_, first refl, refl)) (refl, refl, refl) (refl, refl, refl)

pub defined_alike : SameEnd 0 (hears defined as_sent ++ three_sent defined) (hears defined reversed ++ three_sent defined)
unfolding hears as_sent reversed three_sent Given
defined_alike =
    arrival_order (three_sent defined) (empty_bytes, (empty_bytes, (payload_bytes, tt))) (refl, (refl, (refl, tt))) 0 new_make as_sent reversed same_frames
    (hears defined as_sent) (hears defined reversed) defined_heard.0 defined_heard.1 (refl, (refl, (refl, (refl, (refl, (refl, tt))))))
    (refl, (refl, (refl, (refl, (refl, (refl, tt))))))
