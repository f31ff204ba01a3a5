-- Document 02, W-208: cases with frames of both versions.
use Rattle.std.specs.Prelude.{ℕ, List, [], ◌∷◌, replicate}
use Rattle.frame.specs.Message.{message_of}
use Rattle.rules.specs.Panel.{Panel, none64}
use Rattle.rules.specs.Results.{send, receive}
use Rattle.rules.specs.Cases.{Step, step, of, panel_of, output, buffer, logged, frame_from, narrow_from, zeros4, zeros8, sent, taken, refused_with}

abbrev fresh0 : Panel
fresh0 = panel_of 0 0 0 none64 none64 []

-- ---- the frames of cases 1 and 2, in version 1 and in version 2: either is taken, with the same values, and then the other is 22

unfoldable pub narrow2 : List ℕ
narrow2 = narrow_from (0x03 ∷ 0x00 ∷ 0x00 ∷ 0x1c ∷ 0x85 ∷ replicate 7 0x00) (0x08 ∷ 0x00 ∷ 0x00 ∷ 0x1c ∷ 0x84 ∷ 0x00 ∷ [])

unfoldable pub case_versions : List Step
case_versions =
    let narrow1 = narrow_from (0x03 ∷ 0x00 ∷ 0x00 ∷ 0x1c ∷ 0x84 ∷ zeros8) (0x02 ∷ 0x4f ∷ 0x4b ∷ []) in
    let wide1 = frame_from (0x03 ∷ zeros4 (0x00 ∷ 0x00 ∷ 0x1c ∷ 0x84 ∷ zeros8)) (0x02 ∷ 0x4f ∷ 0x4b ∷ []) in
    let wide2 = frame_from (0x03 ∷ zeros4 (0x00 ∷ 0x00 ∷ 0x1c ∷ 0x85 ∷ replicate 7 0x00)) (0x08 ∷ zeros4 (0x00 ∷ 0x00 ∷ 0x1c ∷ 0x84 ∷ 0x00 ∷ [])) in
    let has = panel_of 0 0 7300 (of ((3, 7300) ∷ [])) (of ((3, 7300) ∷ [])) [] in
    let waits = panel_of 0 0 0 none64 none64 (message_of 3 7301 (of ((3, 7300) ∷ [])) [] ∷ []) in
    let line = logged (3 ∷ zeros4 (0x00 ∷ 0x00 ∷ 0x1c ∷ 0x84 ∷ 2 ∷ 0x4f ∷ 0x4b ∷ [])) in
    step fresh0 (receive narrow1 output) (taken has (line ∷ []))
    ∷ step fresh0 (receive wide1 output) (taken has (line ∷ []))
    ∷ step has (receive narrow1 output) (refused_with 22 has output [])
    ∷ step has (receive wide1 output) (refused_with 22 has output [])
    ∷ step fresh0 (receive narrow2 output) (taken waits [])
    ∷ step fresh0 (receive wide2 output) (taken waits [])
    ∷ step waits (receive narrow2 output) (refused_with 22 waits output [])
    ∷ step waits (receive wide2 output) (refused_with 22 waits output [])
    ∷ []

-- ---- fewer than 23 bytes of version 2 are 1, directly after the version check; version 3 is 3

unfoldable pub case_short : List Step
case_short =
    let behind_version : ℕ → List ℕ → List ℕ = λ version bytes. 0x44 ∷ 0x52 ∷ 0x59 ∷ 0x00 ∷ version ∷ bytes in
    let of64 : ℕ → List ℕ = λ count. 0x40 ∷ replicate count 0x00 in
    step fresh0 (receive (behind_version 0x02 (of64 16)) output) (refused_with 1 fresh0 output [])
    ∷ step fresh0 (receive (behind_version 0x02 (of64 17)) output) (refused_with 4 fresh0 output [])
    ∷ step fresh0 (receive (behind_version 0x01 (of64 13)) output) (refused_with 4 fresh0 output [])
    ∷ step fresh0 (receive (behind_version 0x03 (of64 13)) output) (refused_with 3 fresh0 output [])
    ∷ step fresh0 (receive (behind_version 0x03 (of64 12)) output) (refused_with 1 fresh0 output [])
    ∷ []

-- ---- deadlines past 32 bits: at time 4,294,967,295 one of 4,294,967,296 is taken, and a send with lifetime 1 names it and is one later

unfoldable pub case_past32 : List Step
case_past32 =
    let past = frame_from (0x01 ∷ 0x00 ∷ 0x00 ∷ 0x00 ∷ 0x01 ∷ 0x00 ∷ 0x00 ∷ 0x00 ∷ 0x00 ∷ zeros8) (0x00 ∷ []) in
    let line = logged (1 ∷ 0x00 ∷ 0x00 ∷ 0x00 ∷ 0x01 ∷ 0x00 ∷ 0x00 ∷ 0x00 ∷ 0x00 ∷ 0 ∷ []) in
    let has = panel_of 0 4294967295 4294967296 (of ((1, 4294967296) ∷ [])) (of ((1, 4294967296) ∷ [])) [] in
    step (panel_of 0 4294967295 0 none64 none64 []) (receive past output) (taken has (line ∷ []))
    ∷ step has (send [] 1 output buffer)
    (sent (panel_of 0 4294967295 4294967297 (of ((0, 4294967297) ∷ (1, 4294967296) ∷ [])) (of ((0, 4294967297) ∷ [])) [])
    (logged (0 ∷ 0x00 ∷ 0x00 ∷ 0x00 ∷ 0x01 ∷ 0x00 ∷ 0x00 ∷ 0x00 ∷ 0x01 ∷ 0 ∷ []) ∷ [])
    (frame_from (0x00 ∷ 0x00 ∷ 0x00 ∷ 0x00 ∷ 0x01 ∷ 0x00 ∷ 0x00 ∷ 0x00 ∷ 0x01 ∷ replicate 7 0x00)
    (0x02 ∷ 0x00 ∷ 0x00 ∷ 0x00 ∷ 0x01 ∷ 0x00 ∷ 0x00 ∷ 0x00 ∷ 0x00 ∷ 0x00 ∷ [])))
    ∷ []
