-- Two frames that carry the same message are received alike. Assumes nothing.
use mathlib.Core.Path.{◌≡◌, refl, sym, ap, ap₂, ◌∙◌}
use mathlib.Core.Bool.{cond}
use mathlib.Core.List.{List, []}
use Prim.Native.Nat.{ℕ}
use lib.ListN.{length}
use lib.Dec.{ltb}
use Rattle.frame.specs.Message.{Message}
use Rattle.frame.specs.Refusal.{first_of}
use Rattle.frame.specs.Reading.{width_in, checks, refusal_of, message_from}
use Rattle.frame.proofs.FirstOf.{each_number, first_of_right}
use Rattle.rules.specs.Sizes.{output_length}
use Rattle.rules.specs.Panel.{Panel}
use Rattle.rules.specs.Calls.{receiving}
use Rattle.rules.specs.Refusals.{broken, message_checks, receive_checks}
use Rattle.rules.specs.Results.{receive, refused, done, unless, defined}

module _ (p : Panel) (output : List ℕ) where
  -- of bytes that read, the number depends on the message alone
  abbrev number_of : Message → ℕ
  number_of m = cond (broken p) 26 (cond (ltb (length output) output_length) 10 (first_of (message_checks p m)))

  number_read : (bytes : List ℕ) → refusal_of bytes ≡ 0 → first_of (receive_checks p bytes output) ≡ number_of (message_from bytes)
  unfolding receive_checks first_of checks each_number
  number_read bytes e =
      ap (λ (n : ℕ). cond (broken p) 26 (cond (ltb (length output) output_length) 10 n))
      (first_of_right (checks (width_in bytes) bytes) (message_checks p (message_from bytes)) refl e)

  pub receive_alike : (one other : List ℕ) → refusal_of one ≡ 0 → refusal_of other ≡ 0 → message_from one ≡ message_from other
      → defined p (receive one output) ≡ defined p (receive other output)
  unfolding defined
  receive_alike one other reads reads_too same =
      ap₂ (λ (n : ℕ) (m : Message). unless n (refused p output []) (done (receiving p m) output [] []))
      (number_read one reads ∙ ap number_of same ∙ sym (number_read other reads_too)) same
