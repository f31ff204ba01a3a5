-- A run of frames is read back frame by frame, then comes the end; after broken it stays broken. Assumes nothing.
use mathlib.Core.Path.{◌≡◌, refl, sym, ap, ◌∙◌}
use mathlib.Core.List.{List, ◌++◌, append_assoc}
use Prim.Native.Nat.{ℕ, ◌+◌, ◌≤◌, ◌<◌, ◌^◌}
use native.Mathlib.Omega.{arith}
use lib.ListN.{length, take, drop, length-append}
use lib.Seq.{take_at, drop_at, drop-append_seam, drop-drop}
use Rattle.numbers.specs.Numbers.{big_endian, number_at}
use Rattle.numbers.proofs.BigEndian.{length-big_endian}
use Rattle.numbers.proofs.NumberAt.{number_at_big_endian, number_at_drop}
use Rattle.bundle.specs.declared.Step.{Step}
use Rattle.bundle.specs.declared.Step.TheVariants.{Frame, End, Broken}
use Rattle.bundle.specs.Bundle.{bundle_of, step_at, frame_at, part_of, place_after}
use Rattle.bundle.proofs.Steps.{step_end, step-frame}

-- a frame behind its length, with anything before and after it
module _ (before frame after : List ℕ) (short : length frame < 256 ^ 2) where
  abbrev behind : List ℕ
  behind = big_endian 2 (length frame) ++ frame ++ after

  size : number_at (before ++ behind) (length before) 2 ≡ length frame
  size =
      number_at_drop (before ++ behind) (length before) 2
      ∙ ap (λ (bs : List ℕ). number_at bs 0 2) (drop-append_seam before behind ∙ append_assoc (big_endian 2 (length frame)) frame after)
      ∙ number_at_big_endian 2 (length frame) (frame ++ after) short

  room : length before + 2 + length frame ≤ length (before ++ behind)
  room = simp (length-append, length-big_endian) (omega arith)

  -- the step at its place finds it
  pub frame_step : step_at (before ++ behind) (length before) ≡ Frame (length before + 2) (length frame) (length before + 2 + length frame)
  frame_step =
      let n = size in
      let r = room in
      step-frame (before ++ behind) (length before) (length frame) (sym n) (omega arith) (omega arith)

  -- and the part is the frame
  pub frame_part : frame_at (before ++ behind) (length before) ≡ frame
  frame_part =
      ap (λ (step : Step). part_of (before ++ behind) step) frame_step
      ∙ ap (λ (bs : List ℕ). take (length frame) bs)
      (sym (drop-drop 2 (length before) (before ++ behind))
      ∙ ap (λ (bs : List ℕ). drop 2 bs) (drop-append_seam before behind ∙ append_assoc (big_endian 2 (length frame)) frame after)
      ∙ drop_at (big_endian 2 (length frame)) (frame ++ after) 2 (length-big_endian 2 (length frame)))
      ∙ take_at frame after (length frame) refl

-- behind the last frame of a run comes the end
pub step_run_end : (frames : List (List ℕ)) → step_at (bundle_of frames) (length (bundle_of frames)) ≡ End
step_run_end frames = step_end (bundle_of frames) (length (bundle_of frames)) refl

-- after end and broken the place stays, and so does what is found there
pub end_stays : (bundle : List ℕ) (place : ℕ) → step_at bundle place ≡ End → step_at bundle (place_after (step_at bundle place) place) ≡ End
end_stays bundle place end = ap (λ (step : Step). step_at bundle (place_after step place)) end ∙ end

pub broken_stays : (bundle : List ℕ) (place : ℕ) → step_at bundle place ≡ Broken → step_at bundle (place_after (step_at bundle place) place) ≡ Broken
broken_stays bundle place broken = ap (λ (step : Step). step_at bundle (place_after step place)) broken ∙ broken
