-- The lines put behind a text in lent memory: what was answered by cases, and the pieces of a line put one behind the other.
use mathlib.Core.Path.{◌≡◌, refl}
use mathlib.Core.List.{List, ◌++◌}
use Prim.Native.Nat.{ℕ, zero, suc, ◌+◌, ◌≤◌}
use native.Mathlib.Numerals.{add-one}
use native.Mathlib.Omega.{arith}
use lib.ListN.{length}
use Rattle.log_records.specs.LogRecords.{log_record_at, fields_in, payload_in}
use Rattle.text.specs.declared.Text.{Text}
use Rattle.text.specs.Text.{ascii, decimal}
use Rattle.text.specs.Put.{PutBehind}
use Rattle.text.proofs.Puts.{put_none, put_behind}
use Rattle.lines.specs.Lines.{item, outcome, frame_line, payload_text, hand_line, hand_lines}

-- ---- the line of a frame

pub outcome_taken_lent : (number : ℕ) → number ≡ 0 → ascii "taken" ≡ outcome number
unfolding outcome
outcome_taken_lent zero none = refl
outcome_taken_lent (suc n) none = absurd (omega arith)

pub outcome_refused_lent : (number : ℕ) → (number ≡ 0 → ⊥) → decimal number ≡ outcome number
unfolding outcome
outcome_refused_lent zero some = absurd (some refl)
outcome_refused_lent (suc n) some = refl

-- its pieces are put
pub frame_pieces_lent : {t u v w : Text} (frame number : ℕ) → t.at ≤ length t.buffer.now
    → PutBehind t (ascii "frame " ++ item frame) u
    → PutBehind u (outcome number) v
    → PutBehind v (ascii "\n") w
    → PutBehind t (frame_line frame number) w
unfolding frame_line
frame_pieces_lent frame number within first second last = put_behind within (put_behind within first second) last

-- ---- the line of a log record

-- its pieces are put
pub hand_pieces_lent : {t u v w x : Text} (log_record : List ℕ) (source deadline : ℕ) (payload : List ℕ) → t.at ≤ length t.buffer.now
    → source ≡ (fields_in log_record).source
    → deadline ≡ (fields_in log_record).deadline
    → payload ≡ payload_in log_record
    → PutBehind t (ascii "hand " ++ item source) u
    → PutBehind u (item deadline) v
    → PutBehind v (payload_text payload) w
    → PutBehind w (ascii "\n") x
    → PutBehind t (hand_line log_record) x
unfolding hand_line
hand_pieces_lent log_record source deadline payload within s d p first second third last =
    rw (← s, ← d, ← p) (put_behind within (put_behind within (put_behind within first second) third) last)

-- ---- the lines of log records

pub no_lines_lent : (t : Text) (output : List ℕ) → PutBehind t (hand_lines 0 output) t
unfolding hand_lines
no_lines_lent t output = put_none t

-- one more
pub next_line_lent : {t u v : Text} (output : List ℕ) (i : ℕ) → t.at ≤ length t.buffer.now
    → PutBehind t (hand_lines i output) u
    → PutBehind u (hand_line (log_record_at output i)) v
    → PutBehind t (hand_lines (i + 1) output) v
unfolding hand_lines
next_line_lent output i within before next = rw add-one (put_behind within before next)
