-- Document 01, "Bundle and listing program": bundles and their reader.
use Rattle.std.specs.Prelude.{ℕ, ◌+◌, cond, List, [], ◌∷◌, ◌++◌, ◌≡◌, length, take, drop, ltb, eqb, Option, None, Result, Ok, IsOkAnd, IsSomeAnd, IsErr}
use Rattle.std.specs.Borrow.{Bor}
use Rattle.numbers.specs.Numbers.{big_endian, number_at}
use Rattle.bundle.specs.declared.Step.{Step}
use Rattle.bundle.specs.declared.Step.TheVariants.{Frame, End, Broken}
use Rattle.bundle.specs.declared.BundleStep.{BundleStep}
use Rattle.bundle.specs.declared.Reader.{Reader}
use Rattle.bundle.specs.declared.BrokenBundle.{BrokenBundle}

-- a bundle is a run of frames, each behind its length in 16 bits
unfoldable pub bundle_of : List (List ℕ) → List ℕ
bundle_of [] = []
bundle_of (frame ∷ frames) = big_endian 2 (length frame) ++ frame ++ bundle_of frames

-- the next frame, or end, or broken: a place past the end is broken; end means that no byte is left; broken, that fewer bytes are left than a
-- length or its frame needs
unfoldable pub step_at : List ℕ → ℕ → Step
step_at bundle place =
    cond (ltb (length bundle) place) Broken
    (cond (eqb (length bundle) place) End
    (cond (ltb (length bundle) (place + 2)) Broken
    (cond (ltb (length bundle) (place + 2 + number_at bundle place 2)) Broken
    (Frame (place + 2) (number_at bundle place 2) (place + 2 + number_at bundle place 2)))))

-- the frame's bytes; with end and broken none
abbrev pub part_of : List ℕ → Step → List ℕ
part_of bundle (Frame start size next) = take size (drop start bundle)
part_of bundle End = []
part_of bundle Broken = []

-- the place after a step: with end and broken it stays
abbrev pub place_after : Step → ℕ → ℕ
place_after (Frame start size next) place = next
place_after End place = place
place_after Broken place = place

-- where the part starts: with end and broken at the bundle's start
abbrev pub start_of : Step → ℕ
start_of (Frame start size next) = start
start_of End = 0
start_of Broken = 0

-- the frame at a place
abbrev pub frame_at : List ℕ → ℕ → List ℕ
frame_at bundle place = part_of bundle (step_at bundle place)

-- which of the three: 0 for a frame, 1 for end, 2 for broken
abbrev pub kind_of : Step → ℕ
kind_of (Frame start size next) = 0
kind_of End = 1
kind_of Broken = 2

-- how many bytes the frame has: with end and broken none
abbrev pub size_of : Step → ℕ
size_of (Frame start size next) = size
size_of End = 0
size_of Broken = 0

-- the step as C has it
abbrev pub answer_of : Step → ℕ → BundleStep
answer_of step place = record { start = start_of step; length = size_of step; next = place_after step place; kind = kind_of step }

-- a part of the slice: what it holds, in which memory block, and from which place on
pub record Part (bundle : Bor (List ℕ)) (start : ℕ) (held : List ℕ) (part : Bor (List ℕ)) : Type 0 where
  pub bytes : part.now ≡ held
  pub block : part.ref_ptr.0 ≡ bundle.ref_ptr.0
  pub place : part.ref_ptr.1 ≡ start + bundle.ref_ptr.1

-- the frame at a place as a part of the slice
abbrev pub FramePart : Bor (List ℕ) → ℕ → Bor (List ℕ) → Type 0
FramePart bundle place = Part bundle (start_of (step_at bundle.now place)) (frame_at bundle.now place)

-- what a reader gives at a step: the frame as the part of the slice; none at the end; or that the bundle is broken
abbrev pub Given : Bor (List ℕ) → Step → Result (Option (Bor (List ℕ))) BrokenBundle → Type 0
Given bundle (Frame start size next) given = IsOkAnd given (λ frame. IsSomeAnd frame (λ part. Part bundle start (take size (drop start bundle.now)) part))
Given bundle End given = given ≡ Ok None
Given bundle Broken given = IsErr given

-- what a reader gives, and the reader behind it
pub record Gives (reader : Reader) (given : Result (Option (Bor (List ℕ))) BrokenBundle) (behind : Reader) : Type 0 where
  pub frame : Given reader.bundle (step_at reader.bundle.now reader.place) given
  pub bundle : behind.bundle ≡ reader.bundle
  pub place : behind.place ≡ place_after (step_at reader.bundle.now reader.place) reader.place
