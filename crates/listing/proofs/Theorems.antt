-- What is shown of the whole listing: bench cases 3 and 12, and that the steps counted are enough. Assumes nothing.
use mathlib.Core.Path.{◌≡◌, refl, ap}
use mathlib.Core.Bool.{Bool, true, false, cond}
use mathlib.Core.List.{List, [], ◌∷◌, ◌++◌}
use Prim.Native.Nat.{ℕ, zero, suc, ◌+◌, ◌≤◌, ◌<◌}
use native.Mathlib.Omega.{arith}
use borrow.Author.Tests.{lt-ltb}
use lib.ListN.{length}
use Rattle.bundle.specs.declared.Step.{Step}
use Rattle.bundle.specs.declared.Step.TheVariants.{Frame, End, Broken}
use Rattle.bundle.specs.Bundle.{bundle_of, step_at}
use Rattle.bundle.proofs.Steps.{step_found}
use Rattle.rules.specs.Panel.{fresh}
use Rattle.rules.specs.BenchCases.{frame1, frame2}
use Rattle.rules.proofs.BenchCases.{calls_opened}
use Rattle.log_records.specs.LogRecords.{log_record_at, is_whole, fields_in, payload_in}
use Rattle.text.specs.Text.{ascii, digit, decimal_in, hexadecimal}
use Rattle.lines.specs.Lines.{item, outcome, frame_line, payload_text, hand_line, hand_lines}
use Rattle.listing.specs.Listing.{State, received, lines_at, onward, state_after, goes_on, lines_from, longest, listing}

-- whoever unfolds this unfolds all that a listing is computed by
opened : Unit {0}
unfolding fresh calls_opened frame1 frame2 bundle_of step_at ascii digit decimal_in hexadecimal item outcome frame_line payload_text log_record_at is_whole fields_in payload_in hand_line hand_lines received lines_at state_after lines_from listing
opened = tt

-- 3. "list", given case 2's frame and then case 1's
pub case_3 : listing (bundle_of (frame2 ∷ frame1 ∷ [])) ≡ ascii "frame 1 taken\nframe 2 taken\nhand 3 7300 4f4b\nhand 3 7301 -\nend\n"
unfolding opened
case_3 = refl

-- 12. Empty input to "list" prints `end`; one byte prints `broken`.
pub case_12_empty : listing [] ≡ ascii "end\n"
unfolding opened
case_12_empty = refl

pub case_12_one_byte : (byte : ℕ) → listing (byte ∷ []) ≡ ascii "broken\n"
unfolding opened
case_12_one_byte byte = refl

-- ---- the steps counted are enough

-- a step that goes on comes to a place further on in the bundle
onward_place : (bundle : List ℕ) (s : State) (step : Step) → step_at bundle s.place ≡ step → goes_on step ≡ true
    → (s.place < (onward step s (received bundle s)).place) × ((onward step s (received bundle s)).place ≤ length bundle)
onward_place bundle s (Frame begin size next) found on =
    let f = step_found bundle s.place begin size next found in
    (omega (arith, f.begins, f.ends), f.within)
onward_place bundle s End found on = let z : ◌≡◌ {A = ℕ} 0 1 = ap (λ (b : Bool). cond b 1 0) on in absurd (omega arith)
onward_place bundle s Broken found on = let z : ◌≡◌ {A = ℕ} 0 1 = ap (λ (b : Bool). cond b 1 0) on in absurd (omega arith)

-- from a place in a bundle no more steps are made than bytes are left, and the last one: one more would change nothing
pub lines_from_enough : (most : ℕ) (bundle : List ℕ) (s : State) → s.place ≤ length bundle → length bundle < s.place + most
    → lines_from (suc most) bundle s ≡ lines_from most bundle s
unfolding lines_from state_after
lines_from_enough zero bundle s within few = absurd (omega arith)
lines_from_enough (suc most) bundle s within few =
    ap (λ (rest : List ℕ). lines_at bundle s ++ rest)
    (go (goes_on (step_at bundle s.place)) refl (lines_from_enough most bundle (state_after bundle s)))
  where
    go : (on : Bool) → goes_on (step_at bundle s.place) ≡ on
        → ((state_after bundle s).place ≤ length bundle → length bundle < (state_after bundle s).place + most
        → lines_from (suc most) bundle (state_after bundle s) ≡ lines_from most bundle (state_after bundle s))
        → cond on (lines_from (suc most) bundle (state_after bundle s)) [] ≡ cond on (lines_from most bundle (state_after bundle s)) []
    go true on rest =
        let further = onward_place bundle s (step_at bundle s.place) refl on in
        rest further.1 (omega (arith, further.0))
    go false on rest = refl

-- of a longer one it is only `long`
pub long_listing : (bundle : List ℕ) → longest < length bundle → listing bundle ≡ ascii "long\n"
unfolding listing
long_listing bundle long = rw (lt-ltb longest (length bundle) long) refl
