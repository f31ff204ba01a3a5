-- Document 02, W-206: why each condition is asked for. Each case is two orders of receiving the same frames, from one record, that end otherwise.
-- Panel 3 sends "OK", deadline 7300, and then an empty message, deadline 7301, which names it (cases 1 and 2); panel 5 sends an empty message,
-- deadline 7400. The panel that hears them is panel 0.
use Rattle.std.specs.Prelude.{ℕ, zero, suc, List, [], ◌∷◌, replicate}
use Rattle.frame.specs.Message.{Message, message_of}
use Rattle.rules.specs.Panel.{old_make, Panel, of_make, none64}
use Rattle.rules.specs.Results.{receive, clock}
use Rattle.rules.specs.Cases.{Step, step, of, panel_of, with_floor, output, logged, frame_from, zeros4, zeros8, taken, refused_with}
use Rattle.rules.specs.BenchCases.{frame1, logged1, frame2, logged2}

-- an empty message without entries, from panel 3 or 5
unfoldable pub empty_from : ℕ → ℕ → ℕ → List ℕ
empty_from source high low = frame_from (source ∷ zeros4 (0x00 ∷ 0x00 ∷ high ∷ low ∷ zeros8)) (0x00 ∷ [])

-- the log record of an empty message
abbrev pub logged_from : ℕ → ℕ → ℕ → List ℕ
logged_from source high low = logged (source ∷ zeros4 (0x00 ∷ 0x00 ∷ high ∷ low ∷ 0 ∷ []))

-- a fresh panel 0
abbrev pub fresh0 : Panel
fresh0 = panel_of 0 0 0 none64 none64 []

-- it has messages of these sources and deadlines in its log and in its barrier, and nothing waits
abbrev pub has_logged : ℕ → ℕ → List (ℕ × ℕ) → Panel
has_logged time high names = panel_of 0 time high (of names) (of names) []

-- ---- A clock call between. Where 7301 arrives first it waits, until 7300 lapses; then 7300 is refused, and the log has gone without it.

unfoldable pub case_clock_between : List Step
case_clock_between =
    let waits = panel_of 0 0 0 none64 none64 (message_of 3 7301 (of ((3, 7300) ∷ [])) [] ∷ []) in
    let without1 = with_floor 7300 (has_logged 7301 7301 ((3, 7301) ∷ [])) in
    step fresh0 (receive frame1 output) (taken (has_logged 0 7300 ((3, 7300) ∷ [])) (logged1 ∷ []))
    ∷ step (has_logged 0 7300 ((3, 7300) ∷ [])) (clock 7301 output) (taken (has_logged 7301 7300 ((3, 7300) ∷ [])) [])
    ∷ step (has_logged 7301 7300 ((3, 7300) ∷ [])) (receive frame2 output) (taken (has_logged 7301 7301 ((3, 7301) ∷ [])) (logged2 ∷ []))
    -- the other order
    ∷ step fresh0 (receive frame2 output) (taken waits [])
    ∷ step waits (clock 7301 output) (taken without1 (logged2 ∷ []))
    ∷ step without1 (receive frame1 output) (refused_with 21 without1 output [])
    ∷ []

-- ---- A frame that nobody sent: 8000 of panel 3, which names nothing. Where it arrives first, the mark has passed 7300.

unfoldable pub case_nobody_sent : List Step
case_nobody_sent =
    let forged = empty_from 3 0x1f 0x40 in
    let has = has_logged 0 8000 ((3, 8000) ∷ []) in
    step fresh0 (receive frame1 output) (taken (has_logged 0 7300 ((3, 7300) ∷ [])) (logged1 ∷ []))
    ∷ step (has_logged 0 7300 ((3, 7300) ∷ [])) (receive forged output) (taken has (logged_from 3 0x1f 0x40 ∷ []))
    -- the other order
    ∷ step fresh0 (receive forged output) (taken has (logged_from 3 0x1f 0x40 ∷ []))
    ∷ step has (receive frame1 output) (refused_with 22 has output [])
    ∷ []

-- ---- 23 answered. Panels 4 to 36 have heard 7300, and each sends an empty message, deadline 7301, which names it. At panel 0 those of 4 to 35 wait.
-- That of 36 is refused, unless 7300 arrives first and all are handed.

-- as many messages, from that panel on
unfoldable pub answers : ℕ → ℕ → List Message
answers source zero = []
answers source (suc n) = message_of source 7301 (of ((3, 7300) ∷ [])) [] ∷ answers (suc source) n

-- their sources and deadlines, and their log records
unfoldable pub answers_named : ℕ → ℕ → List (ℕ × ℕ)
answers_named source zero = []
answers_named source (suc n) = (source, 7301) ∷ answers_named (suc source) n

unfoldable pub answers_logged : ℕ → ℕ → List (List ℕ)
answers_logged source zero = []
answers_logged source (suc n) = logged_from source 0x1c 0x85 ∷ answers_logged (suc source) n

unfoldable pub case23 : List Step
case23 =
    let from36 = frame_from (0x24 ∷ zeros4 (0x00 ∷ 0x00 ∷ 0x1c ∷ 0x85 ∷ replicate 7 0x00)) (0x08 ∷ zeros4 (0x00 ∷ 0x00 ∷ 0x1c ∷ 0x84 ∷ 0x00 ∷ [])) in
    let full = panel_of 0 0 0 none64 none64 (answers 4 32) in
    let has : List (ℕ × ℕ) → Panel = λ names. panel_of 0 0 7301 (of ((3, 7300) ∷ names)) (of names) [] in
    let without36 = has (answers_named 4 32) in
    step full (receive from36 output) (refused_with 23 full output [])
    ∷ step full (receive frame1 output) (taken without36 (logged1 ∷ answers_logged 4 32))
    -- the other order
    ∷ step full (receive frame1 output) (taken without36 (logged1 ∷ answers_logged 4 32))
    ∷ step without36 (receive from36 output) (taken (has (answers_named 4 33)) (answers_logged 36 1))
    ∷ []

-- ---- A record that no list reaches: 8000 of panel 3, which names nothing, waits though it is ready. Whatever is taken hands it too.

unfoldable pub case_not_reached : List Step
case_not_reached =
    let from5 = empty_from 5 0x1c 0xe8 in
    let unsettled = panel_of 0 0 0 none64 none64 (message_of 3 8000 none64 [] ∷ []) in
    let both = has_logged 0 8000 ((3, 8000) ∷ (5, 7400) ∷ []) in
    step unsettled (receive frame1 output) (taken (has_logged 0 8000 ((3, 8000) ∷ [])) (logged1 ∷ logged_from 3 0x1f 0x40 ∷ []))
    ∷ step (has_logged 0 8000 ((3, 8000) ∷ [])) (receive from5 output) (taken both (logged_from 5 0x1c 0xe8 ∷ []))
    -- the other order
    ∷ step unsettled (receive from5 output) (taken both (logged_from 5 0x1c 0xe8 ∷ logged_from 3 0x1f 0x40 ∷ []))
    ∷ step both (receive frame1 output) (refused_with 22 both output [])
    ∷ []

-- ---- An output of 1,253 bytes at the first of two receives: it is refused with 10, whichever frame it has.

unfoldable pub case_short_output : List Step
case_short_output =
    let short : List ℕ = replicate 1253 7 in
    let waits = panel_of 0 0 0 none64 none64 (message_of 3 7301 (of ((3, 7300) ∷ [])) [] ∷ []) in
    step fresh0 (receive frame1 short) (refused_with 10 fresh0 short [])
    ∷ step fresh0 (receive frame2 output) (taken waits [])
    -- the other order
    ∷ step fresh0 (receive frame2 short) (refused_with 10 fresh0 short [])
    ∷ step fresh0 (receive frame1 output) (taken (has_logged 0 7300 ((3, 7300) ∷ [])) (logged1 ∷ []))
    ∷ []

-- ---- A panel that is brought from the old make to the new one before the last receive. That of panel 1, deadline 7301, names 7300, which leaves the
-- barrier only if panel 0 is of the new make by then.

unfoldable pub case_make_changed : List Step
case_make_changed =
    let from1 = frame_from (0x01 ∷ zeros4 (0x00 ∷ 0x00 ∷ 0x1c ∷ 0x85 ∷ replicate 7 0x00)) (0x08 ∷ zeros4 (0x00 ∷ 0x00 ∷ 0x1c ∷ 0x84 ∷ 0x00 ∷ [])) in
    let from5 = empty_from 5 0x1c 0xe8 in
    let has1 = has_logged 0 7300 ((3, 7300) ∷ []) in
    let with1 = has_logged 0 7301 ((1, 7301) ∷ (3, 7300) ∷ []) in
    let with5 = has_logged 0 7400 ((3, 7300) ∷ (5, 7400) ∷ []) in
    let marks = of ((1, 7301) ∷ (3, 7300) ∷ (5, 7400) ∷ []) in
    step (of_make old_make has1) (receive from1 output) (taken (of_make old_make with1) (logged_from 1 0x1c 0x85 ∷ []))
    ∷ step with1 (receive from5 output) (taken (panel_of 0 0 7400 marks marks []) (logged_from 5 0x1c 0xe8 ∷ []))
    -- the other order
    ∷ step (of_make old_make has1) (receive from5 output) (taken (of_make old_make with5) (logged_from 5 0x1c 0xe8 ∷ []))
    ∷ step with5 (receive from1 output) (taken (panel_of 0 0 7400 marks (of ((1, 7301) ∷ (5, 7400) ∷ [])) []) (logged_from 1 0x1c 0x85 ∷ []))
    ∷ []

-- all of them
abbrev pub arrival_cases : List (List Step)
arrival_cases = case_clock_between ∷ case_nobody_sent ∷ case23 ∷ case_not_reached ∷ case_short_output ∷ case_make_changed ∷ []
