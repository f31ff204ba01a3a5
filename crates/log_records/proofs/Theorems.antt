-- Log records as a call wrote them are read back: at each index the message of that index, and behind the last one none. Assumes nothing.
use mathlib.Core.Path.{◌≡◌, refl, sym, ap, ◌∙◌}
use mathlib.Core.Bool.{true}
use mathlib.Core.List.Memᴰ.{head as first}
use mathlib.Core.List.Memᴰ.{tail as later}
use mathlib.Core.List.{List, [], ◌∷◌, ◌++◌, append_assoc}
use Prim.Native.Nat.{ℕ, zero, suc, ◌+◌, ◌*◌, ◌-◌, ◌^◌, ◌≤◌, ◌<◌}
use native.Mathlib.Omega.{arith}
use lib.ListN.{length, get_or, take, drop, replicate, length-append}
use lib.Seq.{take_at, drop_at, drop-drop}
use borrow.Author.Tests.{le-leb, eq-eqb}
use Rattle.numbers.specs.Numbers.{big_endian, number_at}
use Rattle.numbers.specs.Buffer.{over}
use Rattle.numbers.proofs.BigEndian.{length-big_endian}
use Rattle.numbers.proofs.NumberAt.{number_at_big_endian, number_at_drop}
use Rattle.frame.specs.Message.{Message}
use Rattle.frame.proofs.Readable.{Readable}
use Rattle.rules.specs.Sizes.{width, log_record_length}
use Rattle.rules.specs.Handing.{log_record, log_records}
use Rattle.rules.specs.Lists.{◌is_in◌}
use Rattle.rules.proofs.LogRecords.{length-log_record}
use Rattle.log_records.specs.LogRecords.{log_record_at, is_whole, fields_in, payload_in}
use Rattle.log_records.proofs.Places.{cut_not_whole, fields-none, payload_none}

-- what the log record of a message has room for: source 0 to 63, a deadline of its width, a payload of at most 32 bytes
pub record Fits (m : Message) : Type 0 where
  pub source : m.source ≤ 63
  pub deadline : m.deadline < 256 ^ width
  pub payload : length m.payload ≤ 32

-- every message that has a frame fits
pub readable_fits : (m : Message) → Readable width m → Fits m
readable_fits m r = record { source = omega (arith, r.source); deadline = r.fits; payload = r.payload }

-- the bytes read as the message: source, deadline, length and payload
pub record ReadsAs (bytes : List ℕ) (m : Message) : Type 0 where
  pub fields : fields_in bytes ≡ record { deadline = m.deadline; source = m.source; length = length m.payload }
  pub payload : payload_in bytes ≡ m.payload

-- ---- one log record

module _ (m : Message) (fits : Fits m) where
  -- what stands behind the length, the deadline and the source
  abbrev behind_length : List ℕ
  behind_length = m.payload ++ replicate (32 - length m.payload) 0

  abbrev behind_deadline : List ℕ
  behind_deadline = big_endian 1 (length m.payload) ++ behind_length

  abbrev behind_source : List ℕ
  behind_source = big_endian width m.deadline ++ behind_deadline

  split : log_record m ≡ big_endian 1 m.source ++ behind_source
  unfolding log_record
  split = simp append_assoc

  drop_source : drop 1 (log_record m) ≡ behind_source
  drop_source = ap (drop 1) split ∙ drop_at (big_endian 1 m.source) behind_source 1 (length-big_endian 1 m.source)

  drop_deadline : drop (1 + width) (log_record m) ≡ behind_deadline
  drop_deadline =
      sym (drop-drop width 1 (log_record m))
      ∙ ap (drop width) drop_source
      ∙ drop_at (big_endian width m.deadline) behind_deadline width (length-big_endian width m.deadline)

  drop-length : drop (2 + width) (log_record m) ≡ behind_length
  drop-length =
      sym (drop-drop 1 (1 + width) (log_record m))
      ∙ ap (drop 1) drop_deadline
      ∙ drop_at (big_endian 1 (length m.payload)) behind_length 1 (length-big_endian 1 (length m.payload))

  source_read : number_at (log_record m) 0 1 ≡ m.source
  source_read = rw split (number_at_big_endian 1 m.source behind_source (omega (arith, fits.source)))

  deadline_read : number_at (log_record m) 1 width ≡ m.deadline
  deadline_read =
      number_at_drop (log_record m) 1 width
      ∙ ap (λ (bs : List ℕ). number_at bs 0 width) drop_source
      ∙ number_at_big_endian width m.deadline behind_deadline fits.deadline

  length_read : number_at (log_record m) (1 + width) 1 ≡ length m.payload
  length_read =
      number_at_drop (log_record m) (1 + width) 1
      ∙ ap (λ (bs : List ℕ). number_at bs 0 1) drop_deadline
      ∙ number_at_big_endian 1 (length m.payload) behind_length (omega (arith, fits.payload))

  whole : is_whole (log_record m) ≡ true
  unfolding is_whole
  whole =
      rw (length_read, eq-eqb (length (log_record m)) log_record_length (length-log_record m fits.payload), le-leb (length m.payload) 32 fits.payload) refl

  fields_read : fields_in (log_record m) ≡ record { deadline = m.deadline; source = m.source; length = length m.payload }
  unfolding fields_in
  fields_read = rw (whole, source_read, deadline_read, length_read) refl

  payload_read : payload_in (log_record m) ≡ m.payload
  unfolding payload_in
  payload_read = rw (fields_read, drop-length) (take_at m.payload (replicate (32 - length m.payload) 0) (length m.payload) refl)

  pub record_reads : ReadsAs (log_record m) m
  record_reads = record { fields = fields_read; payload = payload_read }

-- ---- one after another

-- each message of the list fits its log record
abbrev pub EachFits : List Message → Type 0
EachFits ms = (m : Message) → m is_in ms → Fits m

-- the first log record, and those behind it
first_at : (m : Message) (rest : List ℕ) → Fits m → log_record_at (log_record m ++ rest) 0 ≡ log_record m
unfolding log_record_at
first_at m rest fits = take_at (log_record m) rest log_record_length (length-log_record m fits.payload)

later_at : (m : Message) (rest : List ℕ) (i : ℕ) → Fits m → log_record_at (log_record m ++ rest) (suc i) ≡ log_record_at rest i
unfolding log_record_at
later_at m rest i fits =
    let e : suc i * log_record_length ≡ log_record_length + i * log_record_length = omega arith in
    ap (take log_record_length)
    (ap (λ (n : ℕ). drop n (log_record m ++ rest)) e
    ∙ sym (drop-drop (i * log_record_length) log_record_length (log_record m ++ rest))
    ∙ ap (drop (i * log_record_length)) (drop_at (log_record m) rest log_record_length (length-log_record m fits.payload)))

-- Of the log records of messages, with any bytes behind them, that of index i reads as the i-th message (`other` is what `get_or` would give past
-- the last one).
pub reads_back : (ms : List Message) (rest : List ℕ) (i : ℕ) (other : Message) → EachFits ms → i < length ms
    → ReadsAs (log_record_at (log_records ms ++ rest) i) (get_or ms i other)
unfolding log_records
reads_back [] rest i other fit below = absurd (omega arith)
reads_back (m ∷ ms) rest zero other fit below =
    let fits = fit m (first refl) in
    rw (append_assoc (log_record m) (log_records ms) rest, first_at m (log_records ms ++ rest) fits) (record_reads m fits)
reads_back (m ∷ ms) rest (suc i) other fit below =
    rw (append_assoc (log_record m) (log_records ms) rest, later_at m (log_records ms ++ rest) i (fit m (first refl)))
    (reads_back ms rest i other (λ w is. fit w (later is)) (omega arith))

-- So it is in the output of a call, where the bytes behind keep their content.
pub reads_output : (ms : List Message) (output : List ℕ) (i : ℕ) (other : Message) → EachFits ms → i < length ms
    → ReadsAs (log_record_at (over output 0 (log_records ms)) i) (get_or ms i other)
unfolding over
reads_output ms output i other fit below = reads_back ms _ i other fit below

-- ---- behind the last one

length_all : (ms : List Message) → EachFits ms → length (log_records ms) ≡ length ms * log_record_length
unfolding log_records
length_all [] fit = refl
length_all (m ∷ ms) fit =
    omega (arith, length-append (log_record m) (log_records ms), length-log_record m (fit m (first refl)).payload, length_all ms (λ w is. fit w (later is)))

-- Behind the last log record, where fewer bytes are left than one has, every field is 0 and the payload is empty.
pub none_behind : (ms : List Message) (rest : List ℕ) (i : ℕ) → EachFits ms → length ms ≤ i → length rest < log_record_length
    → (fields_in (log_record_at (log_records ms ++ rest) i) ≡ record { deadline = 0; source = 0; length = 0 })
    × (payload_in (log_record_at (log_records ms ++ rest) i) ≡ [])
none_behind ms rest i fit behind few =
    let none = cut_not_whole (log_records ms ++ rest) i (omega (arith, length-append (log_records ms) rest, length_all ms fit)) in
    (fields-none (log_records ms ++ rest) i none, payload_none (log_records ms ++ rest) i none)
