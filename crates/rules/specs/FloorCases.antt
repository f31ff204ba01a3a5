-- Document 02, W-207: cases of setting a clock back.
use Rattle.std.specs.Prelude.{ℕ, List, [], ◌∷◌, replicate}
use Rattle.frame.specs.Message.{Message, message_of}
use Rattle.rules.specs.Panel.{Panel, none64}
use Rattle.rules.specs.Results.{send, receive, clock, set_back}
use Rattle.rules.specs.Cases.{Step, step, of, panel_of, with_floor, output, buffer, logged, frame_from, zeros4, zeros8, sent, taken, set_back_to, refused_with}

-- ---- A clock set to a wrong year. Panel 0, at time 100, hears "hold lifted" of panel 5, deadline 1301, which names the hold of panel 3, deadline
-- 1300. The hold lapses, and the log goes without it. Then the clock shows a wrong year: the panel is deaf. Set back, it still refuses the hold,
-- by the floor; a later message, 2000 of panel 6, is taken and stands in order.

unfoldable pub case_wrong_year : List Step
case_wrong_year =
    let hold = frame_from (0x03 ∷ zeros4 (0x00 ∷ 0x00 ∷ 0x05 ∷ 0x14 ∷ zeros8)) (0x00 ∷ []) in
    let lifted = frame_from (0x05 ∷ zeros4 (0x00 ∷ 0x00 ∷ 0x05 ∷ 0x15 ∷ replicate 7 0x00)) (0x08 ∷ zeros4 (0x00 ∷ 0x00 ∷ 0x05 ∷ 0x14 ∷ 0x00 ∷ [])) in
    let later = frame_from (0x06 ∷ zeros4 (0x00 ∷ 0x00 ∷ 0x07 ∷ 0xd0 ∷ zeros8)) (0x00 ∷ []) in
    let only5 = of ((5, 1301) ∷ []) in
    let both = of ((5, 1301) ∷ (6, 2000) ∷ []) in
    let at : ℕ → Panel = λ time. with_floor 1300 (panel_of 0 time 1301 only5 only5 []) in
    let start = panel_of 0 100 0 none64 none64 [] in
    let waits = panel_of 0 100 0 none64 none64 (message_of 5 1301 (of ((3, 1300) ∷ [])) [] ∷ []) in
    step start (receive lifted output) (taken waits [])
    ∷ step waits (clock 1301 output) (taken (at 1301) (logged (5 ∷ zeros4 (0x00 ∷ 0x00 ∷ 0x05 ∷ 0x15 ∷ 0 ∷ [])) ∷ []))
    ∷ step (at 1301) (clock 4000000000 output) (taken (at 4000000000) [])
    ∷ step (at 4000000000) (receive later output) (refused_with 21 (at 4000000000) output [])
    ∷ step (at 4000000000) (clock 100 output) (refused_with 25 (at 4000000000) output [])
    ∷ step (at 4000000000) (set_back 100) (set_back_to (at 100))
    ∷ step (at 100) (receive hold output) (refused_with 21 (at 100) output [])
    ∷ step (at 100) (receive later output)
    (taken (with_floor 1300 (panel_of 0 100 2000 both both [])) (logged (6 ∷ zeros4 (0x00 ∷ 0x00 ∷ 0x07 ∷ 0xd0 ∷ 0 ∷ [])) ∷ []))
    ∷ []

-- ---- The floor. At time 860 panel 0 hands 900 of panel 5. Of its entries, which have all lapsed, 840 of panel 6 is reached by the mark; 820 of
-- panel 5 itself and 800 of panel 7 are not, and the floor rises to the larger. (The mark of panel 5 is 900 after this handing.) With the time
-- set back, 820 has lapsed by the floor and 821 has not; an entry of 815 is met by the floor.

unfoldable pub case_floor : List Step
case_floor =
    let has = of ((5, 900) ∷ (6, 850) ∷ []) in
    let at : ℕ → Panel = λ time. with_floor 820 (panel_of 0 time 900 has has []) in
    let of7 : ℕ → List ℕ = λ low. frame_from (0x07 ∷ zeros4 (0x00 ∷ 0x00 ∷ 0x03 ∷ low ∷ zeros8)) (0x00 ∷ []) in
    let with7 = of ((5, 900) ∷ (6, 850) ∷ (7, 821) ∷ []) in
    let of8 = frame_from (0x08 ∷ zeros4 (0x00 ∷ 0x00 ∷ 0x03 ∷ 0x89 ∷ replicate 6 0x00)) (0x02 ∷ 0x00 ∷ zeros4 (0x00 ∷ 0x00 ∷ 0x03 ∷ 0x2f ∷ 0x00 ∷ [])) in
    let with8 = of ((5, 900) ∷ (6, 850) ∷ (8, 905) ∷ []) in
    step (panel_of 0 800 850 (of ((6, 850) ∷ [])) (of ((6, 850) ∷ [])) (message_of 5 900 (of ((5, 820) ∷ (6, 840) ∷ (7, 800) ∷ [])) [] ∷ [])) (clock 860 output)
    (taken (at 860) (logged (5 ∷ zeros4 (0x00 ∷ 0x00 ∷ 0x03 ∷ 0x84 ∷ 0 ∷ [])) ∷ []))
    ∷ step (at 860) (set_back 100) (set_back_to (at 100))
    ∷ step (at 100) (set_back 200) (set_back_to (at 100))
    ∷ step (at 100) (receive (of7 0x34) output) (refused_with 21 (at 100) output [])
    ∷ step (at 100) (receive (of7 0x35) output)
    (taken (with_floor 820 (panel_of 0 100 900 with7 with7 [])) (logged (7 ∷ zeros4 (0x00 ∷ 0x00 ∷ 0x03 ∷ 0x35 ∷ 0 ∷ [])) ∷ []))
    ∷ step (at 100) (receive of8 output)
    (taken (with_floor 820 (panel_of 0 100 905 with8 with8 [])) (logged (8 ∷ zeros4 (0x00 ∷ 0x00 ∷ 0x03 ∷ 0x89 ∷ 0 ∷ [])) ∷ []))
    ∷ []

-- ---- Records that no list reaches. Two messages wait: the floor has passed the deadline of one, the other is ready. A set-back call keeps both; a
-- clock call drops the one and hands the other. A barrier entry of 700 has lapsed and is above its mark: the own message, which names it, raises the floor. The floor is above what a send comes to: the
-- own message has lapsed at once, and is handed all the same. A broken record is refused, with whatever floor.

unfoldable pub case_floor_unreached : List Step
case_floor_unreached =
    let two : List Message = message_of 7 820 none64 [] ∷ message_of 6 821 none64 [] ∷ [] in
    let only6 = of ((6, 821) ∷ []) in
    let only0 : ℕ → List ℕ = λ deadline. of ((0, deadline) ∷ []) in
    let own : ℕ → ℕ → List ℕ = λ high low. logged (0 ∷ zeros4 (0x00 ∷ 0x00 ∷ high ∷ low ∷ 0 ∷ [])) in
    let with64 = with_floor 5000 (panel_of 64 100 0 none64 none64 []) in
    step (with_floor 820 (panel_of 0 100 0 none64 none64 two)) (set_back 90) (set_back_to (with_floor 820 (panel_of 0 90 0 none64 none64 two)))
    ∷ step (with_floor 820 (panel_of 0 100 0 none64 none64 two)) (clock 100 output)
    (taken (with_floor 820 (panel_of 0 100 821 only6 only6 [])) (logged (6 ∷ zeros4 (0x00 ∷ 0x00 ∷ 0x03 ∷ 0x35 ∷ 0 ∷ [])) ∷ []))
    ∷ step (panel_of 0 800 700 none64 (of ((4, 700) ∷ [])) []) (send [] 100 output buffer)
    (sent (with_floor 700 (panel_of 0 800 900 (only0 900) (only0 900) [])) (own 0x03 0x84 ∷ [])
    (frame_from (0x00 ∷ zeros4 (0x00 ∷ 0x00 ∷ 0x03 ∷ 0x84 ∷ replicate 7 0x00)) (0x10 ∷ zeros4 (0x00 ∷ 0x00 ∷ 0x02 ∷ 0xbc ∷ 0x00 ∷ []))))
    ∷ step (with_floor 5000 (panel_of 0 0 0 none64 none64 [])) (send [] 100 output buffer)
    (sent (with_floor 5000 (panel_of 0 0 100 (only0 100) (only0 100) [])) (own 0x00 0x64 ∷ []) (frame_from (0x00 ∷ zeros4 (0x00 ∷ 0x00 ∷ 0x00 ∷ 0x64 ∷ zeros8)) (0x00 ∷ [])))
    ∷ step with64 (set_back 50) (refused_with 26 with64 [] [])
    ∷ []
