-- Document 01, "The panel record": log records as they are read, in an output or a log.
use Rattle.std.specs.Prelude.{ℕ, ◌+◌, ◌*◌, Bool, false, ◌≤◌, cond, Option, MatchOption, ◌&&◌, List, ◌≡◌, length, get_or, take, drop, leb, eqb}
use Rattle.std.specs.Borrow.{Bor}
use Rattle.numbers.specs.Numbers.{number_at}
use Rattle.rules.specs.Sizes.{width, log_record_length}
use Rattle.log_records.specs.declared.LogFields.{LogFields}

-- Log records stand one after another: that of an index, or what is left of the bytes there
unfoldable pub log_record_at : List ℕ → ℕ → List ℕ
log_record_at log index = take log_record_length (drop (index * log_record_length) log)

-- a log record has 42 bytes, and its length, behind source and deadline, is at most 32
unfoldable pub is_whole : List ℕ → Bool
is_whole log_record = eqb (length log_record) log_record_length && leb (number_at log_record (1 + width) 1) 32

-- a whole log record as the part of the caller's bytes that it occupies: what it holds, in which memory block, and from which place on
pub record WholePart (log : Bor (List ℕ)) (index : ℕ) (part : Bor (List ℕ)) : Type 0 where
  pub bytes : part.now ≡ log_record_at log.now index
  pub size : length part.now ≡ log_record_length
  pub few : get_or part.now (1 + width) 0 ≤ 32
  pub block : part.ref_ptr.0 ≡ log.ref_ptr.0
  pub place : part.ref_ptr.1 ≡ index * log_record_length + log.ref_ptr.1

-- that of an index; none where it is not whole
abbrev pub RecordPart : Bor (List ℕ) → ℕ → Option (Bor (List ℕ)) → Type 0
RecordPart log index part = MatchOption part (is_whole (log_record_at log.now index) ≡ false) (WholePart log index)

-- source 1, deadline 8, length 1; where there is no whole log record, all are 0
unfoldable pub fields_in : List ℕ → LogFields
fields_in log_record =
    cond (is_whole log_record)
    (record { deadline = number_at log_record 1 width; source = number_at log_record 0 1; length = number_at log_record (1 + width) 1 })
    (record { deadline = 0; source = 0; length = 0 })

-- the payload, behind the length, without the zeros after its end; where there is no whole log record, none
unfoldable pub payload_in : List ℕ → List ℕ
payload_in log_record = take (fields_in log_record).length (drop (2 + width) log_record)

-- where the payload of an index starts; where there is no whole log record, at the log's start
unfoldable pub payload_place : List ℕ → ℕ → ℕ
payload_place log index = cond (is_whole (log_record_at log index)) (index * log_record_length + (2 + width)) 0

-- the payload as the part of the caller's bytes that it occupies: what it holds, in which memory block, and from which place on
pub record PayloadPart (log : Bor (List ℕ)) (index : ℕ) (part : Bor (List ℕ)) : Type 0 where
  pub bytes : part.now ≡ payload_in (log_record_at log.now index)
  pub block : part.ref_ptr.0 ≡ log.ref_ptr.0
  pub place : part.ref_ptr.1 ≡ payload_place log.now index + log.ref_ptr.1
