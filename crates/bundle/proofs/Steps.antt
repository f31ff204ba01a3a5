-- The steps of a bundle, one law for each case; where a frame found lies; and that the part which the step as C has it names lies in the bundle.
use mathlib.Core.Path.{◌≡◌, refl, sym, subst}
use mathlib.Core.Bool.{Bool, true, false, cond}
use mathlib.Core.List.{List}
use Prim.Native.Nat.{ℕ, ◌+◌, ◌≤◌, ◌<◌}
use native.Mathlib.Omega.{arith}
use lib.Dec.{ltb, eqb}
use lib.ListN.{length}
use borrow.Author.Tests.{ltb-false, lt-ltb, le-ltb, eq-eqb, ne_eqb}
use Rattle.numbers.specs.Numbers.{number_at}
use Rattle.bundle.specs.declared.Step.{Step}
use Rattle.bundle.specs.declared.Step.TheVariants.{Frame, End, Broken}
use Rattle.bundle.specs.declared.BundleStep.{BundleStep}
use Rattle.bundle.specs.declared.Reader.{Reader}
use Rattle.bundle.specs.Bundle.{step_at, answer_of}

module _ (bundle : List ℕ) (place : ℕ) where
  pub step_past : length bundle < place → step_at bundle place ≡ Broken
  unfolding step_at
  step_past past = simp (lt-ltb _ _ past)

  pub step_end : length bundle ≡ place → step_at bundle place ≡ End
  unfolding step_at
  step_end all =
      let within : place ≤ length bundle = omega arith in
      simp (le-ltb _ _ within, eq-eqb _ _ all)

  -- too few bytes for a length
  pub step_short_length : place < length bundle → length bundle < place + 2 → step_at bundle place ≡ Broken
  unfolding step_at
  step_short_length some short =
      let within : place ≤ length bundle = omega arith in
      let left : length bundle ≡ place → ⊥ = λ e. omega arith in
      simp (le-ltb _ _ within, ne_eqb _ _ left, lt-ltb _ _ short)

  -- a length is there
  module _ (size : ℕ) (is : size ≡ number_at bundle place 2) (two : place + 2 ≤ length bundle) where
    -- too few bytes for the frame
    pub step_short_frame : length bundle < place + 2 + size → step_at bundle place ≡ Broken
    unfolding step_at
    step_short_frame short =
        let within : place ≤ length bundle = omega arith in
        let left : length bundle ≡ place → ⊥ = λ e. omega arith in
        simp (le-ltb _ _ within, ne_eqb _ _ left, le-ltb _ _ two, ← is, lt-ltb _ _ short)

    pub step-frame : place + 2 + size ≤ length bundle → step_at bundle place ≡ Frame (place + 2) size (place + 2 + size)
    unfolding step_at
    step-frame fits =
        let within : place ≤ length bundle = omega arith in
        let left : length bundle ≡ place → ⊥ = λ e. omega arith in
        simp (le-ltb _ _ within, ne_eqb _ _ left, le-ltb _ _ two, ← is, le-ltb _ _ fits)

-- ---- a frame found

not_broken : (b : Bool) (x : Step) (s l n : ℕ) → cond b Broken x ≡ Frame s l n → (b ≡ false) × (x ≡ Frame s l n)
not_broken true x s l n e = absurd cc
not_broken false x s l n e = (refl, e)

not_end : (b : Bool) (x : Step) (s l n : ℕ) → cond b End x ≡ Frame s l n → (b ≡ false) × (x ≡ Frame s l n)
not_end true x s l n e = absurd cc
not_end false x s l n e = (refl, e)

-- where a frame found lies
pub record Found (bundle : List ℕ) (place start size next : ℕ) : Type 0 where
  pub begins : start ≡ place + 2
  pub ends : next ≡ start + size
  pub within : next ≤ length bundle

pub step_found : (bundle : List ℕ) (place start size next : ℕ) → step_at bundle place ≡ Frame start size next → Found bundle place start size next
unfolding step_at
step_found bundle place s l n e =
    let t1 = not_broken (ltb (length bundle) place) _ s l n e in
    let t2 = not_end (eqb (length bundle) place) _ s l n t1.1 in
    let t3 = not_broken (ltb (length bundle) (place + 2)) _ s l n t2.1 in
    let t4 = not_broken (ltb (length bundle) (place + 2 + number_at bundle place 2)) _ s l n t3.1 in
    let f : Frame (place + 2) (number_at bundle place 2) (place + 2 + number_at bundle place 2) ≡ Frame s l n = t4.1 in
    let es : place + 2 ≡ s = cc in
    let el : number_at bundle place 2 ≡ l = cc in
    let en : place + 2 + number_at bundle place 2 ≡ n = cc in
    let fits : place + 2 + number_at bundle place 2 ≤ length bundle = ltb-false (length bundle) (place + 2 + number_at bundle place 2) t4.0 in
    record { begins = omega arith; ends = omega arith; within = omega arith }

pub frame_within : (bundle : List ℕ) (place start size next : ℕ) → Frame start size next ≡ step_at bundle place → start + size ≤ length bundle
frame_within bundle place start size next e =
    let found = step_found bundle place start size next (sym e) in
    omega (arith, found.ends, found.within)

-- ---- the step as C has it: the part that it names lies within the bundle

answer_within : (bundle : List ℕ) (place : ℕ) (step : Step) → step_at bundle place ≡ step
    → (answer_of step place).start + (answer_of step place).length ≤ length bundle
answer_within bundle place (Frame start size next) e =
    let found = step_found bundle place start size next e in
    omega (arith, found.ends, found.within)
answer_within bundle place End e = omega arith
answer_within bundle place Broken e = omega arith

pub part_within : (reader : Reader) (answer : BundleStep) → answer ≡ answer_of (step_at reader.bundle.now reader.place) reader.place
    → answer.start + answer.length ≤ length reader.bundle.now
part_within reader answer is =
    let fits : BundleStep → Type 0 = λ (a : BundleStep). a.start + a.length ≤ length reader.bundle.now in
    subst fits (sym is) (answer_within reader.bundle.now reader.place _ refl)
