-- Document 02, W-205: cases of deadlines far ahead. 2,000,100 is 14 days after 790,500.
use Rattle.std.specs.Prelude.{ℕ, List, [], ◌∷◌, replicate}
use Rattle.frame.specs.Message.{Message, message_of}
use Rattle.rules.specs.Sizes.{last_deadline}
use Rattle.rules.specs.Panel.{Panel, none64}
use Rattle.rules.specs.Results.{send, receive, clock}
use Rattle.rules.specs.Cases.{Step, step, of, panel_of, output, buffer, logged, frame_from, zeros4, zeros8, sent, taken, refused_with}

-- panel 0 with nothing in its log, at a time
abbrev pub panel0_at : ℕ → Panel
panel0_at time = panel_of 0 time 0 none64 none64 []

-- ---- sent, refused, taken later. Panel 1, its clock set to a wrong year, sends at 2,000,000 with lifetime 100: 2,000,100. Panel 2 at 500 has
-- that in its log, and sends with lifetime 50: high forces 2,000,101. Panel 0 refuses both with 32 until its time is near enough.

unfoldable pub far_frame1 : List ℕ
far_frame1 = frame_from (0x01 ∷ zeros4 (0x00 ∷ 0x1e ∷ 0x84 ∷ 0xe4 ∷ zeros8)) (0x00 ∷ [])

unfoldable pub far_frame2 : List ℕ
far_frame2 = frame_from (0x02 ∷ zeros4 (0x00 ∷ 0x1e ∷ 0x84 ∷ 0xe5 ∷ replicate 7 0x00)) (0x02 ∷ zeros4 (0x00 ∷ 0x1e ∷ 0x84 ∷ 0xe4 ∷ 0x00 ∷ []))

unfoldable pub case_far_ahead : List Step
case_far_ahead =
    let line1 = logged (1 ∷ zeros4 (0x00 ∷ 0x1e ∷ 0x84 ∷ 0xe4 ∷ 0 ∷ [])) in
    let line2 = logged (2 ∷ zeros4 (0x00 ∷ 0x1e ∷ 0x84 ∷ 0xe5 ∷ 0 ∷ [])) in
    let only1 = of ((1, 2000100) ∷ []) in
    let only2 = of ((2, 2000101) ∷ []) in
    let both = of ((1, 2000100) ∷ (2, 2000101) ∷ []) in
    let with1 : ℕ → Panel = λ time. panel_of 0 time 2000100 only1 only1 [] in
    step (panel_of 1 2000000 0 none64 none64 []) (send [] 100 output buffer) (sent (panel_of 1 2000000 2000100 only1 only1 []) (line1 ∷ []) far_frame1)
    ∷ step (panel_of 2 500 2000100 only1 only1 []) (send [] 50 output buffer)
    (sent (panel_of 2 500 2000101 both only2 []) (line2 ∷ []) far_frame2)
    ∷ step (panel0_at 500) (receive far_frame1 output) (refused_with 32 (panel0_at 500) output [])
    ∷ step (panel0_at 500) (receive far_frame2 output) (refused_with 32 (panel0_at 500) output [])
    ∷ step (panel0_at 500) (clock 790500 output) (taken (panel0_at 790500) [])
    ∷ step (panel0_at 790500) (receive far_frame2 output) (refused_with 32 (panel0_at 790500) output [])  -- one above the sum
    ∷ step (panel0_at 790500) (receive far_frame1 output) (taken (with1 790500) (line1 ∷ []))  -- equal to the sum
    ∷ step (with1 790500) (clock 790501 output) (taken (with1 790501) [])
    ∷ step (with1 790501) (receive far_frame2 output) (taken (panel_of 0 790501 2000101 both only2 []) (line2 ∷ []))
    ∷ []

-- ---- what waits or stands in the log stays. Panel 0 at 500 has 2,000,100 of panel 1 in its log, and one of panel 5 waits for 800 of panel 7.
-- A clock call and a send leave both; a copy of either is 32; what the second waits for lets it go.

unfoldable pub case_far_ahead_stays : List Step
case_far_ahead_stays =
    let only1 = of ((1, 2000100) ∷ []) in
    let all = of ((1, 2000100) ∷ (5, 2000100) ∷ (7, 800) ∷ []) in
    let waits : List Message = message_of 5 2000100 (of ((7, 800) ∷ [])) [] ∷ [] in
    let copy = frame_from (0x05 ∷ zeros4 (0x00 ∷ 0x1e ∷ 0x84 ∷ 0xe4 ∷ replicate 7 0x00)) (0x80 ∷ zeros4 (0x00 ∷ 0x00 ∷ 0x03 ∷ 0x20 ∷ 0x00 ∷ [])) in
    let panel = panel_of 0 500 2000100 only1 only1 waits in
    step panel (clock 600 output) (taken (panel_of 0 600 2000100 only1 only1 waits) [])
    ∷ step panel (send [] 50 output buffer)
    (sent (panel_of 0 500 2000101 (of ((0, 2000101) ∷ (1, 2000100) ∷ [])) (of ((0, 2000101) ∷ [])) waits)
    (logged (0 ∷ zeros4 (0x00 ∷ 0x1e ∷ 0x84 ∷ 0xe5 ∷ 0 ∷ [])) ∷ [])
    (frame_from (0x00 ∷ zeros4 (0x00 ∷ 0x1e ∷ 0x84 ∷ 0xe5 ∷ replicate 7 0x00)) (0x02 ∷ zeros4 (0x00 ∷ 0x1e ∷ 0x84 ∷ 0xe4 ∷ 0x00 ∷ []))))
    ∷ step panel (receive far_frame1 output) (refused_with 32 panel output [])  -- it is at most the mark too
    ∷ step panel (receive copy output) (refused_with 32 panel output [])  -- it waits already too
    ∷ step panel (receive (frame_from (0x07 ∷ zeros4 (0x00 ∷ 0x00 ∷ 0x03 ∷ 0x20 ∷ zeros8)) (0x00 ∷ [])) output)
    (taken (panel_of 0 500 2000100 all (of ((1, 2000100) ∷ (5, 2000100) ∷ [])) [])
    (logged (7 ∷ zeros4 (0x00 ∷ 0x00 ∷ 0x03 ∷ 0x20 ∷ 0 ∷ [])) ∷ logged (5 ∷ zeros4 (0x00 ∷ 0x1e ∷ 0x84 ∷ 0xe4 ∷ 0 ∷ [])) ∷ []))
    ∷ []

-- ---- the last deadline, 18,446,744,073,709,551,615, is 14 days after 18,446,744,073,708,342,015: from then on nothing is refused with 32

unfoldable pub case_last_days : List Step
case_last_days =
    let last = frame_from (0x01 ∷ 0xff ∷ 0xff ∷ 0xff ∷ 0xff ∷ 0xff ∷ 0xff ∷ 0xff ∷ 0xff ∷ zeros8) (0x00 ∷ []) in
    let line = logged (1 ∷ 0xff ∷ 0xff ∷ 0xff ∷ 0xff ∷ 0xff ∷ 0xff ∷ 0xff ∷ 0xff ∷ 0 ∷ []) in
    let only1 = of ((1, last_deadline) ∷ []) in
    let with1 : ℕ → Panel = λ time. panel_of 0 time last_deadline only1 only1 [] in
    step (panel0_at 18446744073708342014) (receive last output) (refused_with 32 (panel0_at 18446744073708342014) output [])
    ∷ step (panel0_at 18446744073708342015) (receive last output) (taken (with1 18446744073708342015) (line ∷ []))
    ∷ step (panel0_at 18446744073708342016) (receive last output) (taken (with1 18446744073708342016) (line ∷ []))  -- in 64 bits the sum would be 0
    ∷ step (panel0_at last_deadline) (receive last output) (taken (with1 last_deadline) (line ∷ []))
    ∷ []
