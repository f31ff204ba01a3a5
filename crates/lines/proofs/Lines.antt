-- The lines: what was answered and the text of a payload by cases, and the pieces of a line put one behind the other.
use mathlib.Core.Path.{◌≡◌, refl, sym}
use mathlib.Core.List.{List, [], ◌∷◌, ◌++◌, append_assoc, append-nil}
use Prim.Native.Nat.{ℕ, zero, suc, ◌+◌, ◌<◌}
use native.Mathlib.Numerals.{add-one}
use native.Mathlib.Omega.{arith}
use lib.ListN.{length}
use Rattle.frame.specs.declared.refusal.Refusal.{Refusal}
use Rattle.frame.specs.Refusal.{number_of}
use Rattle.frame.proofs.Refusals.{number_of_pos}
use Rattle.log_records.specs.LogRecords.{log_record_at, fields_in, payload_in}
use Rattle.text.specs.Text.{ascii, decimal, hexadecimal}
use Rattle.lines.specs.Lines.{item, outcome, frame_line, payload_text, hand_line, hand_lines}

pub outcome_taken : outcome 0 ≡ ascii "taken"
unfolding outcome
outcome_taken = refl

decimal_outcome : (number : ℕ) → 0 < number → outcome number ≡ decimal number
unfolding outcome
decimal_outcome zero some = absurd (omega arith)
decimal_outcome (suc n) some = refl

pub outcome_refused : (refusal : Refusal) → outcome (number_of refusal) ≡ decimal (number_of refusal)
outcome_refused refusal = decimal_outcome (number_of refusal) (number_of_pos refusal)

pub payload_text_none : (payload : List ℕ) → length payload ≡ 0 → ascii "-" ≡ payload_text payload
unfolding payload_text
payload_text_none [] none = refl
payload_text_none (b ∷ bs) none = absurd (omega arith)

pub payload_text_some : (payload : List ℕ) → (length payload ≡ 0 → ⊥) → hexadecimal payload ≡ payload_text payload
unfolding payload_text
payload_text_some [] some = absurd (some refl)
payload_text_some (b ∷ bs) some = refl

-- the pieces of a frame's line
pub frame_pieces : (frame number : ℕ) (t₀ t₁ t₂ t₃ t₄ t₅ : List ℕ)
    → t₁ ≡ t₀ ++ ascii "frame "
    → t₂ ≡ t₁ ++ decimal frame
    → t₃ ≡ t₂ ++ ascii " "
    → t₄ ≡ t₃ ++ outcome number
    → t₅ ≡ t₄ ++ ascii "\n"
    → t₅ ≡ t₀ ++ frame_line frame number
unfolding frame_line item
frame_pieces frame number t₀ t₁ t₂ t₃ t₄ t₅ e₁ e₂ e₃ e₄ e₅ = rw (e₅, e₄, e₃, e₂, e₁) (simp append_assoc)

-- those of a log record's line
pub hand_pieces : (log_record : List ℕ) (source deadline : ℕ) (payload : List ℕ) (t₀ t₁ t₂ t₃ t₄ t₅ t₆ t₇ : List ℕ)
    → source ≡ (fields_in log_record).source
    → deadline ≡ (fields_in log_record).deadline
    → payload ≡ payload_in log_record
    → t₁ ≡ t₀ ++ ascii "hand "
    → t₂ ≡ t₁ ++ decimal source
    → t₃ ≡ t₂ ++ ascii " "
    → t₄ ≡ t₃ ++ decimal deadline
    → t₅ ≡ t₄ ++ ascii " "
    → t₆ ≡ t₅ ++ payload_text payload
    → t₇ ≡ t₆ ++ ascii "\n"
    → t₇ ≡ t₀ ++ hand_line log_record
unfolding hand_line item
hand_pieces log_record source deadline payload t₀ t₁ t₂ t₃ t₄ t₅ t₆ t₇ s d p e₁ e₂ e₃ e₄ e₅ e₆ e₇ =
    rw (e₇, e₆, e₅, e₄, e₃, e₂, e₁, s, d, p) (simp append_assoc)

pub no_lines : (text output : List ℕ) → text ≡ text ++ hand_lines 0 output
unfolding hand_lines
no_lines text output = sym (append-nil text)

-- the line of one log record more
pub next_line : (t₀ t₁ t₂ output : List ℕ) (i : ℕ)
    → t₁ ≡ t₀ ++ hand_lines i output
    → t₂ ≡ t₁ ++ hand_line (log_record_at output i)
    → t₂ ≡ t₀ ++ hand_lines (i + 1) output
unfolding hand_lines
next_line t₀ t₁ t₂ output i e₁ e₂ = rw (add-one, e₂, e₁) (simp append_assoc)
