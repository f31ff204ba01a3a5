-- Laws of refusals' numbers. Assumes nothing.
use mathlib.Core.Path.{◌≡◌, refl, sym}
use mathlib.Core.Bool.{true, false, true≢false}
use Prim.Native.Nat.{◌<◌}
use native.Mathlib.Omega.{arith}
use Rattle.std.specs.Prelude.{Result, Ok, Err, is_err}
use Rattle.std.specs.Result.{IsErrAnd}
use Rattle.std.proofs.lemmas.Result.{err_from_is_err_and}
use Rattle.frame.specs.declared.refusal.Refusal.{Refusal}
use Rattle.frame.specs.declared.refusal.Refusal.TheVariants as refusals
use Rattle.frame.specs.Refusal.{number_of, number_in}

-- none is 0
pub number_of_pos : (refusal : Refusal) → 0 < number_of refusal
number_of_pos refusals.FrameShort = omega arith
number_of_pos refusals.FrameMark = omega arith
number_of_pos refusals.FrameVersion = omega arith
number_of_pos refusals.FrameSource = omega arith
number_of_pos refusals.FrameDeadline = omega arith
number_of_pos refusals.FrameEntry = omega arith
number_of_pos refusals.FramePayloadLength = omega arith
number_of_pos refusals.FrameLeftOver = omega arith
number_of_pos refusals.PayloadLong = omega arith
number_of_pos refusals.BufferShort = omega arith
number_of_pos refusals.PanelNumber = omega arith
number_of_pos refusals.OwnSource = omega arith
number_of_pos refusals.Lapsed = omega arith
number_of_pos refusals.HadAlready = omega arith
number_of_pos refusals.ListFull = omega arith
number_of_pos refusals.DeadlineTooHigh = omega arith
number_of_pos refusals.ClockBack = omega arith
number_of_pos refusals.RecordBroken = omega arith
number_of_pos refusals.TooFarAhead = omega arith

module _ {A : Type 0} where
  -- an answer's number is 0 unless it is a refusal
  pub number_in_ok : (answer : Result A Refusal) → is_err answer ≡ false → number_in answer ≡ 0
  number_in_ok (Ok a) ok = refl
  number_in_ok (Err refusal) ok = absurd (true≢false ok)

  pub number_in_err : (answer : Result A Refusal) → is_err answer ≡ true → number_in answer ≡ 0 → ⊥
  number_in_err (Ok a) err = absurd (true≢false (sym err))
  number_in_err (Err refusal) err = λ (none : number_of refusal ≡ 0). omega (arith, number_of_pos refusal)

  -- the number of what the exit of a `?` returns
  pub number_in_given : (answer : Result A Refusal) (refusal : Refusal) → IsErrAnd answer (λ e. e ≡ refusal) → number_in answer ≡ number_of refusal
  number_in_given answer refusal given = let (is, is_err, same) = err_from_is_err_and answer given in rw (is_err, same) refl
