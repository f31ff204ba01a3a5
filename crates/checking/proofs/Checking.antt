-- The checks of a receive, on what they ask for. Assumes nothing.
use mathlib.Core.Path.{◌≡◌, refl, sym, ap, ◌∙◌}
use mathlib.Core.Bool.{Bool}
use mathlib.Core.List.{List, [], ◌∷◌, ◌++◌}
use Prim.Native.Nat.{ℕ}
use lib.ListN.{length}
use lib.Dec.{ltb}
use Rattle.frame.specs.Refusal.{first_of}
use Rattle.frame.specs.Reading.{width_in, checks, refusal_of, message_in, message_from}
use Rattle.frame.proofs.FirstOf.{each_number, applies-none, first_of_append, first_of_left, first_of_right}
use Rattle.rules.specs.Sizes.{width, output_length}
use Rattle.rules.specs.Panel.{Panel}
use Rattle.rules.specs.Refusals.{broken, message_checks, receive_checks}
use Rattle.rules.proofs.Checks.{Valid, broken-false}
use Rattle.slots.specs.Slots.{Reads}
use Rattle.checking.specs.Checks.{frame_checks_on, NotNarrow}

pub receive_checks-on : (p : Panel) (bytes output : List ℕ)
    → frame_checks_on (broken p) (length output) bytes ++ message_checks p (message_from bytes) ≡ receive_checks p bytes output
unfolding receive_checks
receive_checks-on p bytes output = refl

-- ---- bytes that don't read in version 1

module _ (bytes : List ℕ) (not_narrow : NotNarrow bytes) (e : refusal_of bytes ≡ 0) where
  pub wide_reads : Reads bytes
  wide_reads = rw (not_narrow e) at e

  pub wide-message : message_from bytes ≡ message_in width bytes
  wide-message = ap (λ (w : ℕ). message_in w bytes) (not_narrow e)

-- ---- a frame, before its message is looked at

-- the number of the check is that of the first check that applies to the frame
pub framed : (p : Panel) (is_broken : Bool) (output n : ℕ) (bytes : List ℕ) → is_broken ≡ broken p → n ≡ first_of (frame_checks_on is_broken output bytes)
    → n ≡ first_of (frame_checks_on (broken p) output bytes)
framed p is_broken output n bytes e f = f ∙ ap (λ (b : Bool). first_of (frame_checks_on b output bytes)) e

module _ (p : Panel) (bytes output : List ℕ) where
  -- turned down
  pub frame_refused : (first_of (frame_checks_on (broken p) (length output) bytes) ≡ 0 → ⊥)
      → first_of (frame_checks_on (broken p) (length output) bytes) ≡ first_of (receive_checks p bytes output)
  frame_refused refuses =
      sym (first_of_left (frame_checks_on (broken p) (length output) bytes) (message_checks p (message_from bytes)) refuses)
      ∙ ap first_of (receive_checks-on p bytes output)

  -- let through
  module _ (e : first_of (frame_checks_on (broken p) (length output) bytes) ≡ 0) where
    pub frame_through : first_of (message_checks p (message_from bytes)) ≡ first_of (receive_checks p bytes output)
    unfolding checks each_number
    frame_through =
        sym (first_of_right (frame_checks_on (broken p) (length output) bytes) (message_checks p (message_from bytes)) refl e)
        ∙ ap first_of (receive_checks-on p bytes output)

    parts : (first_of ((broken p, 26) ∷ (ltb (length output) output_length, 10) ∷ []) ≡ 0) × (first_of (checks (width_in bytes) bytes) ≡ 0)
    unfolding each_number
    parts = first_of_append ((broken p, 26) ∷ (ltb (length output) output_length, 10) ∷ []) (checks (width_in bytes) bytes) refl e

    pub through_reads : refusal_of bytes ≡ 0
    through_reads = parts.1

    pub through_valid : Valid p
    unfolding each_number
    through_valid = broken-false p (applies-none ((broken p, 26) ∷ (ltb (length output) output_length, 10) ∷ []) refl parts.0 0)
