-- Where log records stand in a log: the places of one are places of the log, and when it is whole. Assumes nothing.
use mathlib.Core.Path.{◌≡◌, refl, sym, ap, ◌∙◌}
use mathlib.Core.Bool.{Bool, true, false}
use mathlib.Core.List.{List, [], ◌∷◌}
use Prim.Native.Nat.{ℕ, zero, suc, ◌+◌, ◌*◌, ◌-◌, ◌≤◌, ◌<◌}
use native.Mathlib.Nat.{zero-add, suc-add}
use native.Mathlib.Omega.{arith}
use lib.Dec.{leb, eqb}
use lib.ListN.{length, get_or, take, drop, length-take, length-drop}
use lib.Seq.{length-take-le, take-nil, take-take, drop-drop}
use borrow.Author.Tests.{leb-true, le-leb, lt-leb, eq-eqb, eqb-true, ne_eqb}
use Rattle.numbers.specs.Numbers.{number, number_at}
use Rattle.numbers.proofs.NumberAt.{number_at_one}
use Rattle.frame.proofs.Conjunction.{and_both}
use Rattle.rules.specs.Sizes.{width, log_record_length}
use Rattle.log_records.specs.LogRecords.{log_record_at, is_whole, fields_in, payload_in, payload_place}

drop-take : (k n : ℕ) (l : List ℕ) → drop k (take (k + n) l) ≡ take n (drop k l)
drop-take zero n l = ap (λ (i : ℕ). take i l) (zero-add n)
drop-take (suc k) n [] = ap (λ (i : ℕ). drop (suc k) (take i [])) (suc-add k n) ∙ sym (take-nil n)
drop-take (suc k) n (x ∷ l) = ap (λ (i : ℕ). drop (suc k) (take i (x ∷ l))) (suc-add k n) ∙ drop-take k n l

-- what makes a log record whole
whole_parts : (log_record : List ℕ) → is_whole log_record ≡ true → (length log_record ≡ log_record_length) × (number_at log_record (1 + width) 1 ≤ 32)
unfolding is_whole
whole_parts log_record whole =
    let both = and_both (eqb (length log_record) log_record_length) (leb (number_at log_record (1 + width) 1) 32) whole in
    (eqb-true (length log_record) log_record_length both.0, leb-true (number_at log_record (1 + width) 1) 32 both.1)

-- ---- a log record of full length, as its length byte says

module _ (bs : List ℕ) (size : length bs ≡ log_record_length) where
  whole_by_length : is_whole bs ≡ leb (get_or bs (1 + width) 0) 32
  unfolding is_whole
  whole_by_length = rw (number_at_one bs (1 + width) (omega arith), eq-eqb (length bs) log_record_length size) refl

  pub long_not_whole : 32 < get_or bs (1 + width) 0 → is_whole bs ≡ false
  long_not_whole long = whole_by_length ∙ lt-leb _ 32 long

  module _ (few : get_or bs (1 + width) 0 ≤ 32) where
    pub whole : is_whole bs ≡ true
    whole = whole_by_length ∙ le-leb _ 32 few

    fields_whole : fields_in bs ≡ record { deadline = number_at bs 1 width; source = get_or bs 0 0; length = get_or bs (1 + width) 0 }
    unfolding fields_in
    fields_whole = rw (whole, number_at_one bs 0 (omega arith), number_at_one bs (1 + width) (omega arith)) refl

    pub fields_read : (deadline : ℕ) → deadline ≡ number_at bs 1 width
        → record { deadline = deadline; source = get_or bs 0 0; length = get_or bs (1 + width) 0 } ≡ fields_in bs
    fields_read deadline read =
        ap (λ (n : ℕ). record { deadline = n; source = get_or bs 0 0; length = get_or bs (1 + width) 0 }) read ∙ sym fields_whole

    pub payload_whole : payload_in bs ≡ take (get_or bs (1 + width) 0) (drop (2 + width) bs)
    unfolding payload_in
    payload_whole = rw fields_whole refl

-- ---- where it stands in a log

module _ (log : List ℕ) (index : ℕ) where
  pub length_whole : index * log_record_length + log_record_length ≤ length log → length (log_record_at log index) ≡ log_record_length
  unfolding log_record_at
  length_whole room = length-take-le log_record_length (drop (index * log_record_length) log) (rw length-drop (omega arith))

  length_cut : length (log_record_at log index) ≡ log_record_length → index * log_record_length + log_record_length ≤ length log
  unfolding log_record_at
  length_cut e =
      let size = length-take log_record_length (drop (index * log_record_length) log) in
      let rest = length-drop (index * log_record_length) log in
      omega arith

  pub cut_not_whole : length log < index * log_record_length + log_record_length → is_whole (log_record_at log index) ≡ false
  unfolding is_whole
  cut_not_whole cut =
      let short : length (log_record_at log index) ≡ log_record_length → ⊥ = λ e. omega (arith, length_cut e) in
      rw (ne_eqb (length (log_record_at log index)) log_record_length short) refl

  -- what a whole log record says of the log
  pub record Whole : Type 0 where
    pub room : index * log_record_length + log_record_length ≤ length log
    pub few : number_at log (index * log_record_length + (1 + width)) 1 ≤ 32

  -- so many bytes from a place of the log record on are bytes of the log
  part_at : (at size : ℕ) → at + size ≤ log_record_length
      → take size (drop at (log_record_at log index)) ≡ take size (drop (index * log_record_length + at) log)
  unfolding log_record_at
  part_at at size room =
      let rest = drop (index * log_record_length) log in
      let e : at + (log_record_length - at) ≡ log_record_length = omega arith in
      ap (λ (n : ℕ). take size (drop at (take n rest))) (sym e)
      ∙ ap (take size) (drop-take at (log_record_length - at) rest)
      ∙ take-take size (log_record_length - at) (drop at rest) (omega arith)
      ∙ ap (take size) (drop-drop at (index * log_record_length) log)

  number-at : (at size : ℕ) → at + size ≤ log_record_length → number_at (log_record_at log index) at size ≡ number_at log (index * log_record_length + at) size
  unfolding number_at
  number-at at size room = ap number (part_at at size room)

  pub true_whole : is_whole (log_record_at log index) ≡ true → Whole
  true_whole whole =
      let parts = whole_parts (log_record_at log index) whole in
      record { room = length_cut parts.0; few = omega (arith, parts.1, number-at (1 + width) 1 (omega arith)) }

  -- as a part of the log's bytes
  pub record_is : take (index * log_record_length + log_record_length - index * log_record_length) (drop (index * log_record_length) log) ≡ log_record_at log index
  unfolding log_record_at
  record_is =
      let all : index * log_record_length + log_record_length - index * log_record_length ≡ log_record_length = omega arith in
      ap (λ (n : ℕ). take n (drop (index * log_record_length) log)) all

  pub place_whole : is_whole (log_record_at log index) ≡ true → payload_place log index ≡ index * log_record_length + (2 + width)
  unfolding payload_place
  place_whole whole = rw whole refl

  -- and where there is none
  pub fields-none : is_whole (log_record_at log index) ≡ false → fields_in (log_record_at log index) ≡ record { deadline = 0; source = 0; length = 0 }
  unfolding fields_in
  fields-none none = rw none refl

  pub payload_none : is_whole (log_record_at log index) ≡ false → payload_in (log_record_at log index) ≡ []
  unfolding payload_in
  payload_none none = rw (fields-none none) refl

  pub place_none : is_whole (log_record_at log index) ≡ false → payload_place log index ≡ 0
  unfolding payload_place
  place_none none = rw none refl

-- ---- whatever the bytes are

length_short : (log_record : List ℕ) → (fields_in log_record).length ≤ 32
unfolding fields_in
length_short log_record = go (is_whole log_record) refl
  where
    go : (b : Bool) → is_whole log_record ≡ b → (fields_in log_record).length ≤ 32
    go true whole = rw whole (whole_parts log_record whole).1
    go false none = rw none (omega arith)

-- the payload has at most 32 bytes
pub payload_short : (log_record : List ℕ) → length (payload_in log_record) ≤ 32
unfolding payload_in
payload_short log_record =
    omega (arith, length_short log_record, length-take (fields_in log_record).length (drop (2 + width) log_record))
