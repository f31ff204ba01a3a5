-- Bytes for which the frame check answers 0: no check applies at the width that is picked; their payload, and where it starts. Assumes nothing.
use mathlib.Core.Path.{◌≡◌, refl, sym, ap, ◌∙◌}
use mathlib.Core.Bool.{Bool, false}
use mathlib.Core.List.{List}
use Prim.Native.Nat.{ℕ, ◌+◌, ◌*◌}
use native.Mathlib.Omega.{arith}
use lib.ListN.{drop, length-drop}
use Rattle.std.specs.Prelude.{Result, is_err}
use Rattle.frame.specs.declared.refusal.Refusal.{Refusal}
use Rattle.frame.specs.Refusal.{number_in}
use Rattle.frame.proofs.Refusals.{number_in_ok}
use Rattle.frame.specs.Reading.{width_in, count_in, payload_place, refusal, refusal_of, message_in, reading}
use Rattle.frame.proofs.Passed.{Passed, passed_zero, zero_passed, reading-zero}
use Rattle.reading.specs.Answer.{payload_of, start_of}

module _ (width answer : ℕ) (bs : List ℕ) (is : answer ≡ refusal_of bs) (none : answer ≡ 0) (picked : width ≡ width_in bs) where
  pub picked_zero : refusal width bs ≡ 0
  picked_zero = ap (λ (w : ℕ). refusal w bs) picked ∙ omega (arith, is, none)

  pub picked_passed : Passed width bs
  picked_passed = zero_passed width bs picked_zero

-- where a check answers no refusal, at the width that is picked
pub unrefused_passed : {A : Type 0} (bs : List ℕ) (answer : Result A Refusal) (flag : Bool) → number_in answer ≡ refusal_of bs → flag ≡ is_err answer
    → flag ≡ false → Passed (width_in bs) bs
unrefused_passed bs answer flag is told none = picked_passed (width_in bs) (number_in answer) bs is (number_in_ok answer (sym told ∙ none)) refl

-- the payload's place
pub placed : (bs : List ℕ) (width picked count : ℕ) → width ≡ picked → picked ≡ width_in bs → count ≡ count_in picked bs
    → 15 + width + width * count ≡ payload_place (width_in bs) bs
placed bs width picked count e is n = rw (e, n) (ap (λ (k : ℕ). payload_place k bs) is)

module _ (width : ℕ) (bs : List ℕ) (p : Passed width bs) where
  pub payload_passed : payload_of (reading width bs) ≡ drop (payload_place width bs) bs
  unfolding message_in
  payload_passed = rw (reading-zero width bs (passed_zero width bs p))

  pub start_passed : start_of bs (reading width bs) ≡ payload_place width bs
  unfolding message_in
  start_passed = rw (reading-zero width bs (passed_zero width bs p), length-drop) (omega (arith, p.room))
