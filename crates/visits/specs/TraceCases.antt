-- Cases of traces: a record and a frame in; what is shown out. Bytes are written out by hand.
use Rattle.std.specs.Prelude.{ℕ, ◌≡◌, Bool, true, false, List, [], ◌∷◌, map, take, drop, replicate}
use Rattle.rules.specs.Panel.{Panel, none64, fresh}
use Rattle.rules.specs.Cases.{of, panel_of, frame_from, zeros4}
use Rattle.rules.specs.FarAheadCases.{far_frame1, far_frame2}
use Rattle.rules.specs.BenchCases.{frame1, frame2, queue}
use Rattle.visits.specs.Visiting.{Trace, trace}

-- a trace: the record and the frame that go in, and what is shown
pub record Look : Type 0 where
  pub panel : Panel
  pub bytes : List ℕ
  pub shown : Trace

-- what documents 01 and 02 define is what the case shows
abbrev pub EachShown : List Look → Type 0
EachShown looks = map (λ (l : Look). l.shown) looks ≡ map (λ (l : Look). trace l.panel l.bytes) looks

-- shown at that record: the number, whether it is ready, how many entries were visited
abbrev pub look : Panel → List ℕ → ℕ → Bool → ℕ → Look
look panel bytes number ready visited =
    record { panel = panel; bytes = bytes; shown = record { number = number; ready = ready; visited = visited } }

-- Traces of the frames of cases 1 and 2, and of a message of panel 5 (or 6) with entries 800 of panels 3, 7 and 9

unfoldable pub case_trace : List Look
case_trace =
    let after = frame_from (0x05 ∷ zeros4 (0x00 ∷ 0x00 ∷ 0x03 ∷ 0x84 ∷ replicate 6 0x00))
    (0x02 ∷ 0x88 ∷ zeros4 (0x00 ∷ 0x00 ∷ 0x03 ∷ 0x20 ∷ zeros4 (0x00 ∷ 0x00 ∷ 0x03 ∷ 0x20 ∷ zeros4 (0x00 ∷ 0x00 ∷ 0x03 ∷ 0x20 ∷ 0x00 ∷ [])))) in
    let of6 = frame_from (0x06 ∷ []) (drop 6 after) in
    let had : List (ℕ × ℕ) → Panel = λ marks. panel_of 0 0 900 (of marks) none64 [] in
    let all : List (ℕ × ℕ) = (3, 800) ∷ (7, 800) ∷ (9, 800) ∷ [] in
    look (fresh 0) frame1 0 true 0  -- no bit is set
    ∷ look (fresh 0) frame2 0 false 1
    ∷ look (had []) after 0 false 1
    ∷ look (had ((3, 800) ∷ [])) after 0 false 2  -- the empty bits between are not visited, nor is 9 behind
    ∷ look (had ((7, 800) ∷ (9, 800) ∷ [])) after 0 false 1  -- lowest first
    ∷ look (had ((3, 800) ∷ (7, 800) ∷ (9, 799) ∷ [])) after 0 false 3  -- the last one alone is not met
    ∷ look (had all) after 0 true 3
    ∷ look (panel_of 0 801 0 none64 none64 []) after 0 true 3  -- an entry that has lapsed is met, and visited
    ∷ look (panel_of 5 0 900 (of ((3, 800) ∷ [])) none64 []) after 20 false 2
    ∷ look (panel_of 0 901 0 none64 none64 []) after 21 true 3
    ∷ look (had ((5, 900) ∷ (3, 800) ∷ [])) after 22 false 2
    ∷ look (panel_of 0 0 900 (of ((3, 800) ∷ [])) none64 (queue 32)) after 22 false 2  -- it waits already
    ∷ look (panel_of 0 0 900 (of ((3, 800) ∷ [])) none64 (queue 32)) of6 23 false 2
    ∷ look (fresh 0) far_frame1 32 true 0  -- too far ahead
    ∷ look (fresh 0) far_frame2 32 false 1
    ∷ look (panel_of 0 0 900 (of all) none64 (queue 32)) of6 0 true 3
    ∷ look (panel_of 64 0 900 (of ((3, 800) ∷ [])) none64 []) after 26 false 2  -- a broken record has marks and a time all the same
    ∷ look (had all) (take 18 after) 1 false 0
    ∷ look (panel_of 64 0 900 (of all) none64 []) (take 18 after) 26 false 0
    ∷ []
