-- Document 01, "Bundle and listing program": the lines that "list" prints. Items of a line have one blank between them, each line is closed by
-- a line feed.
use Rattle.std.specs.Prelude.{ℕ, zero, suc, List, [], ◌∷◌, ◌++◌, Option, Some, None}
use Rattle.frame.specs.declared.refusal.Refusal.{Refusal}
use Rattle.frame.specs.Refusal.{number_of}
use Rattle.log_records.specs.LogRecords.{log_record_at, fields_in, payload_in}
use Rattle.text.specs.Text.{ascii, decimal, hexadecimal}

-- a number, and the blank before the next item
unfoldable pub item : ℕ → List ℕ
item n = decimal n ++ ascii " "

-- the number of a refusal, 0 for none
abbrev pub number_or_0 : Option Refusal → ℕ
number_or_0 None = 0
number_or_0 (Some refusal) = number_of refusal

-- `taken` or the refusal number
unfoldable pub outcome : ℕ → List ℕ
outcome zero = ascii "taken"
outcome (suc n) = decimal (suc n)

-- Per frame it prints `frame`, its number from 1, and `taken` or the refusal number;
unfoldable pub frame_line : ℕ → ℕ → List ℕ
frame_line frame number = ascii "frame " ++ item frame ++ outcome number ++ ascii "\n"

-- the payload in lower-case hexadecimal or `-` if empty
unfoldable pub payload_text : List ℕ → List ℕ
payload_text [] = ascii "-"
payload_text (b ∷ bs) = hexadecimal (b ∷ bs)

-- then per log record `hand`, source, deadline, and the payload
unfoldable pub hand_line : List ℕ → List ℕ
hand_line log_record =
    ascii "hand " ++ item (fields_in log_record).source ++ item (fields_in log_record).deadline ++ payload_text (payload_in log_record) ++ ascii "\n"

-- the lines of so many log records at the start of an output
unfoldable pub hand_lines : ℕ → List ℕ → List ℕ
hand_lines zero output = []
hand_lines (suc count) output = hand_lines count output ++ hand_line (log_record_at output count)
