-- Document 01, "Bench cases" 1 to 11 (12 is of the program), the first three with the deadlines of document 02, W-203; cases of our own; and all
-- of them in one list.
use Rattle.std.specs.Prelude.{ℕ, zero, suc, ◌+◌, List, [], ◌∷◌, ◌++◌, replicate}
use Rattle.frame.specs.Message.{Message, message_of}
use Rattle.rules.specs.Sizes.{last_deadline}
use Rattle.rules.specs.Panel.{old_make, new_make, Panel, none64}
use Rattle.rules.specs.Calls.{beacon_lifetime}
use Rattle.rules.specs.Results.{send, receive, clock}
use Rattle.rules.specs.Cases.{Step, step, of, panel_of, output, buffer, logged, frame_from, zeros4, zeros8, sent, taken, refused_with}
use Rattle.rules.specs.BarrierCases.{case_yard, case_yard_mixed, case_removed, case_own}
use Rattle.rules.specs.VersionCases.{case_versions, case_short, case_past32}
use Rattle.rules.specs.FloorCases.{case_wrong_year, case_floor, case_floor_unreached}
use Rattle.rules.specs.FarAheadCases.{far_frame1, far_frame2, case_far_ahead, case_far_ahead_stays, case_last_days}

-- ---- 1: panel 3, time 100, sends 4F 4B with lifetime 0: deadline 7300; 25 bytes

abbrev pub deadline1 : ℕ
deadline1 = 7300

unfoldable pub frame1 : List ℕ
frame1 = frame_from (0x03 ∷ zeros4 (0x00 ∷ 0x00 ∷ 0x1c ∷ 0x84 ∷ zeros8)) (0x02 ∷ 0x4f ∷ 0x4b ∷ [])

abbrev pub logged1 : List ℕ
logged1 = logged (3 ∷ zeros4 (0x00 ∷ 0x00 ∷ 0x1c ∷ 0x84 ∷ 2 ∷ 0x4f ∷ 0x4b ∷ []))

abbrev pub after1 : Panel
after1 = panel_of 3 100 deadline1 (of ((3, deadline1) ∷ [])) (of ((3, deadline1) ∷ [])) []

unfoldable pub case1 : List Step
case1 = step (panel_of 3 100 0 none64 none64 []) (send (0x4f ∷ 0x4b ∷ []) 0 output buffer) (sent after1 (logged1 ∷ []) frame1) ∷ []

-- ---- 2: it then sends an empty payload with lifetime 0: deadline 7301, mask 8, entry 7300, 31 bytes

abbrev pub deadline2 : ℕ
deadline2 = 7301

unfoldable pub frame2 : List ℕ
frame2 =
    frame_from (0x03 ∷ zeros4 (0x00 ∷ 0x00 ∷ 0x1c ∷ 0x85 ∷ replicate 7 0x00)) (0x08 ∷ zeros4 (0x00 ∷ 0x00 ∷ 0x1c ∷ 0x84 ∷ 0x00 ∷ []))

abbrev pub logged2 : List ℕ
logged2 = logged (3 ∷ zeros4 (0x00 ∷ 0x00 ∷ 0x1c ∷ 0x85 ∷ 0 ∷ []))

unfoldable pub case2 : List Step
case2 =
    step after1 (send [] 0 output buffer)
    (sent (panel_of 3 100 deadline2 (of ((3, deadline2) ∷ [])) (of ((3, deadline2) ∷ [])) []) (logged2 ∷ []) frame2)
    ∷ []

-- ---- 3: a fresh panel 0 is given case 2's frame and then case 1's: both are taken, and the second hands both

unfoldable pub case3 : List Step
case3 =
    let fresh0 = panel_of 0 0 0 none64 none64 [] in
    let one = panel_of 0 0 0 none64 none64 (message_of 3 deadline2 (of ((3, deadline1) ∷ [])) [] ∷ []) in
    step fresh0 (receive frame2 output) (taken one [])
    ∷ step one (receive frame1 output)
    (taken (panel_of 0 0 deadline2 (of ((3, deadline2) ∷ [])) (of ((3, deadline2) ∷ [])) []) (logged1 ∷ logged2 ∷ []))
    ∷ []

-- ---- 4: panel 1 at 1000 sends with lifetime 100: 1100; panel 2 at 500 takes it and sends with lifetime 50: 1101, not 550

unfoldable pub case4 : List Step
case4 =
    let frame = frame_from (0x01 ∷ zeros4 (0x00 ∷ 0x00 ∷ 0x04 ∷ 0x4c ∷ zeros8)) (0x00 ∷ []) in
    let line = logged (1 ∷ zeros4 (0x00 ∷ 0x00 ∷ 0x04 ∷ 0x4c ∷ 0 ∷ [])) in
    let panel2 = panel_of 2 500 1100 (of ((1, 1100) ∷ [])) (of ((1, 1100) ∷ [])) [] in
    step (panel_of 1 1000 0 none64 none64 []) (send [] 100 output buffer)
    (sent (panel_of 1 1000 1100 (of ((1, 1100) ∷ [])) (of ((1, 1100) ∷ [])) []) (line ∷ []) frame)
    ∷ step (panel_of 2 500 0 none64 none64 []) (receive frame output) (taken panel2 (line ∷ []))
    ∷ step panel2 (send [] 50 output buffer)
    (sent (panel_of 2 500 1101 (of ((1, 1100) ∷ (2, 1101) ∷ [])) (of ((2, 1101) ∷ [])) [])
    (logged (2 ∷ zeros4 (0x00 ∷ 0x00 ∷ 0x04 ∷ 0x4d ∷ 0 ∷ [])) ∷ [])
    (frame_from (0x02 ∷ zeros4 (0x00 ∷ 0x00 ∷ 0x04 ∷ 0x4d ∷ replicate 7 0x00)) (0x02 ∷ zeros4 (0x00 ∷ 0x00 ∷ 0x04 ∷ 0x4c ∷ 0x00 ∷ []))))
    ∷ []

-- ---- 5: deadline 700 at time 700 is taken; at time 701 it is 21

unfoldable pub case5 : List Step
case5 =
    let frame = frame_from (0x01 ∷ zeros4 (0x00 ∷ 0x00 ∷ 0x02 ∷ 0xbc ∷ zeros8)) (0x00 ∷ []) in
    step (panel_of 0 700 0 none64 none64 []) (receive frame output)
    (taken (panel_of 0 700 700 (of ((1, 700) ∷ [])) (of ((1, 700) ∷ [])) []) (logged (1 ∷ zeros4 (0x00 ∷ 0x00 ∷ 0x02 ∷ 0xbc ∷ 0 ∷ [])) ∷ []))
    ∷ step (panel_of 0 701 0 none64 none64 []) (receive frame output) (refused_with 21 (panel_of 0 701 0 none64 none64 []) output [])
    ∷ []

-- ---- 6: time 18,446,744,073,709,551,614, high 0, lifetime 1: sent with 18,446,744,073,709,551,615; the next send is 24

unfoldable pub case6 : List Step
case6 =
    let last = of ((3, last_deadline) ∷ []) in
    let panel = panel_of 3 18446744073709551614 last_deadline last last [] in
    step (panel_of 3 18446744073709551614 0 none64 none64 []) (send [] 1 output buffer)
    (sent panel (logged (3 ∷ 0xff ∷ 0xff ∷ 0xff ∷ 0xff ∷ 0xff ∷ 0xff ∷ 0xff ∷ 0xff ∷ 0 ∷ []) ∷ []) (frame_from (0x03 ∷ 0xff ∷ 0xff ∷ 0xff ∷ 0xff ∷ 0xff ∷ 0xff ∷ 0xff ∷ 0xff ∷ zeros8) (0x00 ∷ [])))
    ∷ step panel (send [] 1 output buffer) (refused_with 24 panel output buffer)
    ∷ []

-- ---- 7: two waiting messages made ready by one arrival, equal deadlines, sources 5 and 9: 5 goes first

unfoldable pub case7 : List Step
case7 =
    let waits_for7 = of ((7, 800) ∷ []) in
    let marks = of ((5, 900) ∷ (7, 800) ∷ (9, 900) ∷ []) in
    let barrier = of ((5, 900) ∷ (9, 900) ∷ []) in
    step (panel_of 0 0 0 none64 none64 (message_of 9 900 waits_for7 [] ∷ message_of 5 900 waits_for7 [] ∷ []))
    (receive (frame_from (0x07 ∷ zeros4 (0x00 ∷ 0x00 ∷ 0x03 ∷ 0x20 ∷ zeros8)) (0x00 ∷ [])) output)
    (taken (panel_of 0 0 900 marks barrier [])
    (logged (7 ∷ zeros4 (0x00 ∷ 0x00 ∷ 0x03 ∷ 0x20 ∷ 0 ∷ [])) ∷ logged (5 ∷ zeros4 (0x00 ∷ 0x00 ∷ 0x03 ∷ 0x84 ∷ 0 ∷ []))
    ∷ logged (9 ∷ zeros4 (0x00 ∷ 0x00 ∷ 0x03 ∷ 0x84 ∷ 0 ∷ [])) ∷ []))
    ∷ []

-- ---- 8: a clock call passes a message and the entry that it waits for: it is dropped, not handed

unfoldable pub case8 : List Step
case8 =
    step (panel_of 0 0 0 none64 none64 (message_of 5 900 (of ((7, 800) ∷ [])) [] ∷ [])) (clock 901 output)
    (taken (panel_of 0 901 0 none64 none64 []) [])
    ∷ []

-- ---- 9: with 32 waiting, a ready 33rd is taken; one not ready is 23

-- so many messages of panel 5 that wait for one of panel 7
unfoldable pub queue : ℕ → List Message
queue zero = []
queue (suc n) = message_of 5 (900 + n) (of ((7, 800) ∷ [])) [] ∷ queue n

unfoldable pub case9 : List Step
case9 =
    let full = panel_of 0 0 0 none64 none64 (queue 32) in
    step full (receive (frame_from (0x06 ∷ zeros4 (0x00 ∷ 0x00 ∷ 0x03 ∷ 0xb6 ∷ zeros8)) (0x00 ∷ [])) output)
    (taken (panel_of 0 0 950 (of ((6, 950) ∷ [])) (of ((6, 950) ∷ [])) (queue 32)) (logged (6 ∷ zeros4 (0x00 ∷ 0x00 ∷ 0x03 ∷ 0xb6 ∷ 0 ∷ [])) ∷ []))
    ∷ step full
    (receive (frame_from (0x06 ∷ zeros4 (0x00 ∷ 0x00 ∷ 0x03 ∷ 0xb6 ∷ replicate 7 0x00)) (0x80 ∷ zeros4 (0x00 ∷ 0x00 ∷ 0x03 ∷ 0x20 ∷ 0x00 ∷ []))) output)
    (refused_with 23 full output [])
    ∷ []

-- ---- 10: a payload of 32 goes; 33 is 9; empty bytes are 1

unfoldable pub case10 : List Step
case10 =
    let panel = panel_of 3 0 0 none64 none64 [] in
    step panel (send (replicate 32 0x09) 5 output buffer)
    (sent (panel_of 3 0 5 (of ((3, 5) ∷ [])) (of ((3, 5) ∷ [])) [])
    (logged (3 ∷ zeros4 (0x00 ∷ 0x00 ∷ 0x00 ∷ 0x05 ∷ 32 ∷ replicate 32 0x09)) ∷ [])
    (frame_from (0x03 ∷ zeros4 (0x00 ∷ 0x00 ∷ 0x00 ∷ 0x05 ∷ zeros8)) (0x20 ∷ replicate 32 0x09)))
    ∷ step panel (send (replicate 33 0x09) 5 output buffer) (refused_with 9 panel output buffer)
    ∷ step panel (receive [] output) (refused_with 1 panel output [])
    ∷ []

-- ---- 11: the same clock reading twice is accepted; one less is 25

unfoldable pub case11 : List Step
case11 =
    let panel = panel_of 0 100 0 none64 none64 [] in
    step (panel_of 0 0 0 none64 none64 []) (clock 100 output) (taken panel [])
    ∷ step panel (clock 100 output) (taken panel [])
    ∷ step panel (clock 99 output) (refused_with 25 panel output [])
    ∷ []

-- ---- beyond document 01's cases: a beacon. Panel 3, time 100, beacon of 4F 4B: deadline 1300, whatever a lifetime of 0 means

unfoldable pub case_beacon : List Step
case_beacon =
    let only3 = of ((3, 1300) ∷ []) in
    step (panel_of 3 100 0 none64 none64 []) (send (0x4f ∷ 0x4b ∷ []) beacon_lifetime output buffer)
    (sent (panel_of 3 100 1300 only3 only3 []) (logged (3 ∷ zeros4 (0x00 ∷ 0x00 ∷ 0x05 ∷ 0x14 ∷ 2 ∷ 0x4f ∷ 0x4b ∷ [])) ∷ [])
    (frame_from (0x03 ∷ zeros4 (0x00 ∷ 0x00 ∷ 0x05 ∷ 0x14 ∷ zeros8)) (0x02 ∷ 0x4f ∷ 0x4b ∷ [])))
    ∷ []

-- ---- beyond document 01's cases: the order of refusals. Each call has two faults, of which the first of its list counts

unfoldable pub case_order : List Step
case_order =
    let short : List ℕ = replicate 1385 7 in
    let above63 = panel_of 64 0 0 none64 none64 [] in
    let late = panel_of 3 last_deadline 0 none64 none64 [] in
    let marked = panel_of 3 801 900 (of ((7, 800) ∷ [])) none64 [] in
    let own = frame_from (0x03 ∷ zeros4 (0x00 ∷ 0x00 ∷ 0x03 ∷ 0x20 ∷ zeros8)) (0x00 ∷ []) in
    let lapsed7 = frame_from (0x07 ∷ zeros4 (0x00 ∷ 0x00 ∷ 0x03 ∷ 0x20 ∷ zeros8)) (0x00 ∷ []) in
    let full = panel_of 3 0 0 none64 none64 (queue 32) in
    let waits = frame_from (0x05 ∷ zeros4 (0x00 ∷ 0x00 ∷ 0x03 ∷ 0x84 ∷ replicate 7 0x00)) (0x80 ∷ zeros4 (0x00 ∷ 0x00 ∷ 0x03 ∷ 0x20 ∷ 0x00 ∷ [])) in
    let had1 = panel_of 3 0 2000100 (of ((1, 2000100) ∷ [])) none64 [] in
    let panel1 = panel_of 1 0 0 none64 none64 [] in
    step above63 (send [] 0 short buffer) (refused_with 26 above63 short buffer)
    ∷ step late (send (replicate 33 0x09) 0 output (replicate 566 7)) (refused_with 10 late output (replicate 566 7))
    ∷ step late (send (replicate 33 0x09) 0 output buffer) (refused_with 9 late output buffer)
    ∷ step late (send [] 0 output buffer) (refused_with 24 late output buffer)
    ∷ step above63 (receive [] short) (refused_with 26 above63 short [])
    ∷ step marked (receive [] short) (refused_with 10 marked short [])
    ∷ step marked (receive (own ++ (0x00 ∷ [])) output) (refused_with 8 marked output [])  -- its source is the own number too
    ∷ step marked (receive own output) (refused_with 20 marked output [])  -- it has lapsed too
    ∷ step marked (receive lapsed7 output) (refused_with 21 marked output [])  -- it is at most the mark too
    ∷ step panel1 (receive far_frame1 output) (refused_with 20 panel1 output [])  -- it is too far ahead too
    ∷ step had1 (receive far_frame1 output) (refused_with 32 had1 output [])  -- it is at most the mark too
    ∷ step full (receive far_frame2 output) (refused_with 32 full output [])  -- 32 wait, and it is not ready
    ∷ step full (receive waits output) (refused_with 22 full output [])  -- it waits already, and 32 wait
    ∷ step above63 (clock 0 short) (refused_with 26 above63 short [])
    ∷ step late (clock 0 short) (refused_with 10 late short [])
    ∷ step late (clock 0 output) (refused_with 25 late output [])
    ∷ []

-- ---- beyond document 01's cases: what no list reaches and 26 lets through. Of the messages waiting one has lapsed, one is the panel's own,
-- and that one waits twice; all are ready, and a call hands them

unfoldable pub case_unreached : List Step
case_unreached =
    let own = message_of 0 600 none64 [] in
    let marks = of ((0, 600) ∷ (5, 400) ∷ (7, 800) ∷ []) in
    step (panel_of 0 500 0 none64 none64 (own ∷ message_of 5 400 none64 [] ∷ own ∷ []))
    (receive (frame_from (0x07 ∷ zeros4 (0x00 ∷ 0x00 ∷ 0x03 ∷ 0x20 ∷ zeros8)) (0x00 ∷ [])) output)
    (taken (panel_of 0 500 800 marks marks [])
    (logged (7 ∷ zeros4 (0x00 ∷ 0x00 ∷ 0x03 ∷ 0x20 ∷ 0 ∷ [])) ∷ logged (5 ∷ zeros4 (0x00 ∷ 0x00 ∷ 0x01 ∷ 0x90 ∷ 0 ∷ []))
    ∷ logged (0 ∷ zeros4 (0x00 ∷ 0x00 ∷ 0x02 ∷ 0x58 ∷ 0 ∷ [])) ∷ logged (0 ∷ zeros4 (0x00 ∷ 0x00 ∷ 0x02 ∷ 0x58 ∷ 0 ∷ [])) ∷ []))
    ∷ []

-- ---- all of them

abbrev pub bench_cases : List (List Step)
bench_cases =
    case1 ∷ case2 ∷ case3 ∷ case4 ∷ case5 ∷ case6 ∷ case7 ∷ case8 ∷ case9 ∷ case10 ∷ case11 ∷ case_beacon ∷ case_order ∷ case_unreached ∷ case_far_ahead ∷ case_far_ahead_stays
    ∷ case_last_days ∷ case_yard new_make ∷ case_yard old_make ∷ case_yard_mixed new_make new_make ∷ case_yard_mixed new_make old_make ∷ case_yard_mixed old_make new_make
    ∷ case_yard_mixed old_make old_make ∷ case_removed ∷ case_own ∷ case_wrong_year ∷ case_floor ∷ case_floor_unreached ∷ case_versions ∷ case_short
    ∷ case_past32 ∷ []
