-- Document 02, W-204: cases of shorter barriers, at panels of the new make and of the old one.
use Rattle.std.specs.Prelude.{ℕ, List, [], ◌∷◌, replicate}
use Rattle.frame.specs.Message.{Message, message_of}
use Rattle.rules.specs.Panel.{Make, old_make, new_make, fresh, of_make}
use Rattle.rules.specs.Results.{send, receive}
use Rattle.rules.specs.Cases.{Step, step, of, panel_of, with_floor, output, buffer, logged, frame_from, zeros4, zeros8, sent, taken, refused_with}

-- ---- A busy yard. Panels 0, 1, 2 and 3, at time 0, send one message each, with lifetimes 100, 200, 300 and 400: A, B, C and D. Each has those
-- before its own in its log. B names A; so a new panel that has A and B in its log names B alone. Of the old make C has 27 bytes and D 31; of
-- the new make both have 23.

abbrev frame_a : List ℕ
frame_a = frame_from (0x00 ∷ zeros4 (0x00 ∷ 0x00 ∷ 0x00 ∷ 0x64 ∷ zeros8)) (0x00 ∷ [])

abbrev frame_b : List ℕ
frame_b = frame_from (0x01 ∷ zeros4 (0x00 ∷ 0x00 ∷ 0x00 ∷ 0xc8 ∷ replicate 7 0x00)) (0x01 ∷ zeros4 (0x00 ∷ 0x00 ∷ 0x00 ∷ 0x64 ∷ 0x00 ∷ []))

abbrev pub frame_c : Make → List ℕ
frame_c old_make =
    frame_from (0x02 ∷ zeros4 (0x00 ∷ 0x00 ∷ 0x01 ∷ 0x2c ∷ replicate 7 0x00))
    (0x03 ∷ zeros4 (0x00 ∷ 0x00 ∷ 0x00 ∷ 0x64 ∷ zeros4 (0x00 ∷ 0x00 ∷ 0x00 ∷ 0xc8 ∷ 0x00 ∷ [])))
frame_c new_make = frame_from (0x02 ∷ zeros4 (0x00 ∷ 0x00 ∷ 0x01 ∷ 0x2c ∷ replicate 7 0x00)) (0x02 ∷ zeros4 (0x00 ∷ 0x00 ∷ 0x00 ∷ 0xc8 ∷ 0x00 ∷ []))

abbrev pub frame_d : Make → List ℕ
frame_d old_make =
    frame_from (0x03 ∷ zeros4 (0x00 ∷ 0x00 ∷ 0x01 ∷ 0x90 ∷ replicate 7 0x00))
    (0x07 ∷ zeros4 (0x00 ∷ 0x00 ∷ 0x00 ∷ 0x64 ∷ zeros4 (0x00 ∷ 0x00 ∷ 0x00 ∷ 0xc8 ∷ zeros4 (0x00 ∷ 0x00 ∷ 0x01 ∷ 0x2c ∷ 0x00 ∷ []))))
frame_d new_make = frame_from (0x03 ∷ zeros4 (0x00 ∷ 0x00 ∷ 0x01 ∷ 0x90 ∷ replicate 7 0x00)) (0x04 ∷ zeros4 (0x00 ∷ 0x00 ∷ 0x01 ∷ 0x2c ∷ 0x00 ∷ []))

-- the barrier of panels 2 and 3 with A and B in their logs, and of panel 3 with C too
abbrev barrier_b : Make → List ℕ
barrier_b old_make = of ((0, 100) ∷ (1, 200) ∷ [])
barrier_b new_make = of ((1, 200) ∷ [])

abbrev barrier_c : Make → List ℕ
barrier_c old_make = of ((0, 100) ∷ (1, 200) ∷ (2, 300) ∷ [])
barrier_c new_make = of ((2, 300) ∷ [])

abbrev line_a : List ℕ
line_a = logged (0 ∷ zeros4 (0x00 ∷ 0x00 ∷ 0x00 ∷ 0x64 ∷ 0 ∷ []))

abbrev line_b : List ℕ
line_b = logged (1 ∷ zeros4 (0x00 ∷ 0x00 ∷ 0x00 ∷ 0xc8 ∷ 0 ∷ []))

abbrev line_c : List ℕ
line_c = logged (2 ∷ zeros4 (0x00 ∷ 0x00 ∷ 0x01 ∷ 0x2c ∷ 0 ∷ []))

-- marks of A, of A and B, of A, B and C
abbrev marks_a : List ℕ
marks_a = of ((0, 100) ∷ [])

abbrev marks_b : List ℕ
marks_b = of ((0, 100) ∷ (1, 200) ∷ [])

abbrev marks_c : List ℕ
marks_c = of ((0, 100) ∷ (1, 200) ∷ (2, 300) ∷ [])

-- panels 0, 1 and 2 send A, B and C; all are of that make
unfoldable pub case_yard : Make → List Step
case_yard make =
    let panel1 = of_make make (panel_of 1 0 100 marks_a marks_a []) in
    let panel2 = of_make make (panel_of 2 0 100 marks_a marks_a []) in
    let with2 = of_make make (panel_of 2 0 200 marks_b (barrier_b make) []) in
    step (of_make make (fresh 0)) (send [] 100 output buffer) (sent (of_make make (panel_of 0 0 100 marks_a marks_a [])) (line_a ∷ []) frame_a)
    ∷ step (of_make make (fresh 1)) (receive frame_a output) (taken panel1 (line_a ∷ []))
    ∷ step panel1 (send [] 200 output buffer) (sent (of_make make (panel_of 1 0 200 marks_b (of ((1, 200) ∷ [])) [])) (line_b ∷ []) frame_b)
    ∷ step (of_make make (fresh 2)) (receive frame_a output) (taken panel2 (line_a ∷ []))
    ∷ step panel2 (receive frame_b output) (taken with2 (line_b ∷ []))
    ∷ step with2 (send [] 300 output buffer) (sent (of_make make (panel_of 2 0 300 marks_c (of ((2, 300) ∷ [])) [])) (line_c ∷ []) (frame_c make))
    ∷ []

-- panel 3, with A in its log, hears B and the C of a panel 2 of the one or the other make, and sends D
unfoldable pub case_yard_mixed : Make → Make → List Step
case_yard_mixed make other =
    let panel3 = of_make make (panel_of 3 0 200 marks_b (barrier_b make) []) in
    let with3 = of_make make (panel_of 3 0 300 marks_c (barrier_c make) []) in
    let after = of ((0, 100) ∷ (1, 200) ∷ (2, 300) ∷ (3, 400) ∷ []) in
    step (of_make make (panel_of 3 0 100 marks_a marks_a [])) (receive frame_b output) (taken panel3 (line_b ∷ []))
    ∷ step panel3 (receive (frame_c other) output) (taken with3 (line_c ∷ []))
    ∷ step with3 (send [] 400 output buffer)
    (sent (of_make make (panel_of 3 0 400 after (of ((3, 400) ∷ [])) [])) (logged (3 ∷ zeros4 (0x00 ∷ 0x00 ∷ 0x01 ∷ 0x90 ∷ 0 ∷ [])) ∷ []) (frame_d make))
    ∷ []

-- ---- Which entries are removed. Panel 3, at time 61, hears 200 of panel 1 with the entries 100 of panel 0, 100 of panel 4 and 60 of panel 5,
-- which has lapsed, and which no mark has reached: the floor rises to it. Of its barrier the entry 100 of panel 0 is equal to the one carried, and goes; 101 of panel 4 is above it, and stays; 50 of
-- panel 5 is below it, and goes; for panel 6 the message has none, and 70 stays. While it waits for 100 of panel 4, nothing goes.

unfoldable pub case_removed : List Step
case_removed =
    let frame = frame_from (0x01 ∷ zeros4 (0x00 ∷ 0x00 ∷ 0x00 ∷ 0xc8 ∷ replicate 7 0x00))
    (0x31 ∷ zeros4 (0x00 ∷ 0x00 ∷ 0x00 ∷ 0x64 ∷ zeros4 (0x00 ∷ 0x00 ∷ 0x00 ∷ 0x64 ∷ zeros4 (0x00 ∷ 0x00 ∷ 0x00 ∷ 0x3c ∷ 0x00 ∷ [])))) in
    let line = logged (1 ∷ zeros4 (0x00 ∷ 0x00 ∷ 0x00 ∷ 0xc8 ∷ 0 ∷ [])) in
    let had = of ((0, 100) ∷ (4, 101) ∷ (5, 50) ∷ (6, 70) ∷ []) in
    let has = of ((0, 100) ∷ (1, 200) ∷ (4, 101) ∷ (5, 50) ∷ (6, 70) ∷ []) in
    let left = of ((1, 200) ∷ (4, 101) ∷ (6, 70) ∷ []) in
    let less = of ((0, 100) ∷ (4, 99) ∷ (5, 50) ∷ (6, 70) ∷ []) in
    let waits : List Message = message_of 1 200 (of ((0, 100) ∷ (4, 100) ∷ (5, 60) ∷ [])) [] ∷ [] in
    let frame4 = frame_from (0x04 ∷ zeros4 (0x00 ∷ 0x00 ∷ 0x00 ∷ 0x65 ∷ zeros8)) (0x00 ∷ []) in
    step (panel_of 3 61 101 had had []) (receive frame output) (taken (with_floor 60 (panel_of 3 61 200 has left [])) (line ∷ []))
    ∷ step (of_make old_make (panel_of 3 61 101 had had [])) (receive frame output) (taken (of_make old_make (with_floor 60 (panel_of 3 61 200 has has []))) (line ∷ []))
    ∷ step (panel_of 3 61 100 less less []) (receive frame output) (taken (panel_of 3 61 100 less less waits) [])
    ∷ step (panel_of 3 61 100 less less waits) (receive frame output) (refused_with 22 (panel_of 3 61 100 less less waits) output [])
    ∷ step (panel_of 3 61 100 less less waits) (receive frame4 output)
    (taken (with_floor 60 (panel_of 3 61 200 has left [])) (logged (4 ∷ zeros4 (0x00 ∷ 0x00 ∷ 0x00 ∷ 0x65 ∷ 0 ∷ [])) ∷ line ∷ []))
    ∷ []

-- ---- The entry of the message's own panel is removed, and its own goes in. Panel 3 has 200 of panel 1 in its log, and hears panel 1's next,
-- 300, which names it.

unfoldable pub case_own : List Step
case_own =
    let only1 : ℕ → List ℕ = λ deadline. of ((1, deadline) ∷ []) in
    step (panel_of 3 0 200 (only1 200) (only1 200) [])
    (receive (frame_from (0x01 ∷ zeros4 (0x00 ∷ 0x00 ∷ 0x01 ∷ 0x2c ∷ replicate 7 0x00)) (0x02 ∷ zeros4 (0x00 ∷ 0x00 ∷ 0x00 ∷ 0xc8 ∷ 0x00 ∷ []))) output)
    (taken (panel_of 3 0 300 (only1 300) (only1 300) []) (logged (1 ∷ zeros4 (0x00 ∷ 0x00 ∷ 0x01 ∷ 0x2c ∷ 0 ∷ [])) ∷ []))
    ∷ []
