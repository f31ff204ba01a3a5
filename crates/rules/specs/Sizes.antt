-- The sizes that follow from a deadline's width.
use Rattle.std.specs.Prelude.{ℕ}
use Rattle.frame.specs.Frame.{wide}

-- times and deadlines are unsigned 64-bit: the width of version 2
abbrev pub width : ℕ
width = wide

-- the last deadline there is
abbrev pub last_deadline : ℕ
last_deadline = 18446744073709551615

-- a log record has 42 bytes
abbrev pub log_record_length : ℕ
log_record_length = 42

-- an output has room for 33 log records
abbrev pub output_length : ℕ
output_length = 1386

-- a frame buffer has room for the longest frame
abbrev pub buffer_length : ℕ
buffer_length = 567
