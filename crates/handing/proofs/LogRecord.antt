-- The fields of a log record: its length, the payload as a part of its frame, and each field put into a buffer behind those before it. Assumes
-- nothing.
use mathlib.Core.Path.{◌≡◌, refl, sym, ap, ◌∙◌}
use mathlib.Core.List.{List, ◌++◌, append_assoc}
use Prim.Native.Nat.{ℕ, ◌+◌, ◌-◌, ◌*◌, ◌^◌, ◌<◌, ◌≤◌}
use native.Mathlib.Omega.{arith}
use lib.Count.{ones_in, ones, ones-le}
use lib.ListN.{length, take, drop, replicate, length-append, length-drop, length-replicate, replicate-append-replicate}
use lib.Seq.{take_all}
use Rattle.numbers.specs.Numbers.{big_endian}
use Rattle.numbers.specs.Buffer.{over}
use Rattle.numbers.proofs.BigEndian.{length-big_endian}
use Rattle.numbers.proofs.Over.{length_over, over-over, over_again}
use Rattle.frame.specs.Message.{Message}
use Rattle.frame.specs.Reading.{mask_in, count_in, message_in}
use Rattle.frame.proofs.Entries.{ones_in_ones}
use Rattle.frame.proofs.Passed.{Passed, zero_passed, length_payload}
use Rattle.rules.specs.Sizes.{width, log_record_length}
use Rattle.rules.specs.Handing.{log_record}
use Rattle.rules.proofs.LogRecords.{length-log_record}
use Rattle.slots.specs.Slots.{Reads}

-- a log record has its full length
pub length-readable : (bs : List ℕ) → Reads bs → length (log_record (message_in width bs)) ≡ log_record_length
length-readable bs r =
    let p = zero_passed width bs r in
    length-log_record (message_in width bs) (omega (arith, p.payload, length_payload width bs p))

-- what stands behind n entries and the length byte is the payload
pub part_payload : (bs : List ℕ) (n : ℕ) → n ≡ count_in width bs → take (length bs - (15 + width + width * n)) (drop (15 + width + width * n) bs) ≡ (message_in width bs).payload
unfolding message_in
part_payload bs n e =
    take_all (length bs - (15 + width + width * n)) (drop (15 + width + width * n) bs) (rw length-drop (omega arith))
    ∙ ap (λ (count : ℕ). drop (15 + width + width * count) bs) e

-- no mask has more than 64 set bits
pub entries_few : (mask : ℕ) → mask < 2 ^ 64 → ones mask ≤ 64
entries_few mask below = ones-le 64 mask below

module _ (bs : List ℕ) (mask : ℕ) (reads : Reads bs) (is : mask ≡ mask_in width bs) (below : mask < 2 ^ 64) where
  abbrev start : ℕ
  start = 15 + width + width * ones mask

  counted : ones mask ≡ count_in width bs
  counted = sym (ones_in_ones 64 mask below) ∙ ap (ones_in 64) is

  passed : Passed width bs
  passed = zero_passed width bs reads

  -- so it is by the mask, and that lies within the frame
  pub payload_place : (start ≤ length bs)
      × ((take (length bs - start) (drop start bs) ≡ (message_in width bs).payload) × (length (take (length bs - start) (drop start bs)) ≤ 32))
  payload_place =
      let all = part_payload bs (ones mask) counted in
      (omega (arith, counted, passed.room), (all, rw all (omega (arith, passed.payload, length_payload width bs passed))))

abbrev head : ℕ → ℕ → ℕ → List ℕ
head source deadline size = big_endian 1 source ++ big_endian width deadline ++ big_endian 1 size

over-head : (buffer : List ℕ) (source deadline size : ℕ)
    → over (over (over buffer 0 (big_endian 1 source)) 1 (big_endian width deadline)) (1 + width) (big_endian 1 size) ≡ over buffer 0 (head source deadline size)
over-head buffer source deadline size =
    ap (λ (l : List ℕ). over l (1 + width) (big_endian 1 size))
    (over-over buffer 0 (big_endian 1 source) 1 (big_endian width deadline) (simp length-big_endian) (omega arith))
    ∙ over-over buffer 0 (big_endian 1 source ++ big_endian width deadline) (1 + width) (big_endian 1 size) (simp (length-append, length-big_endian)) (omega arith)

abbrev zeros : ℕ → List ℕ
zeros n = replicate n 0

zeros_split : (n size : ℕ) → size ≤ n → zeros n ≡ zeros size ++ zeros (n - size)
zeros_split n size le =
    let all : size + (n - size) ≡ n = omega arith in
    sym (replicate-append-replicate size (n - size) 0 ∙ ap zeros all)

-- the payload goes over zeros
over-log_record : (buffer : List ℕ) (m : Message) (size : ℕ) → size ≡ length m.payload → size ≤ 32 → log_record_length ≤ length buffer
    → over
    (over (over (over (over buffer 0 (big_endian 1 m.source)) 1 (big_endian width m.deadline)) (1 + width) (big_endian 1 size)) (2 + width) (replicate 32 0))
    (2 + width)
    m.payload
    ≡ over buffer 0 (log_record m)
unfolding log_record
over-log_record buffer m size e few room =
    let front = head m.source m.deadline size in
    let six : length (head m.source m.deadline size) ≡ 2 + width = simp (length-append, length-big_endian) in
    let headed = over buffer 0 front in
    let long : length (over buffer 0 (head m.source m.deadline size)) ≡ length buffer = length_over buffer 0 front (omega arith) in
    ap (λ (l : List ℕ). over (over l (2 + width) (zeros 32)) (2 + width) m.payload) (over-head buffer m.source m.deadline size)
    ∙ ap (λ (l : List ℕ). over (over headed (2 + width) l) (2 + width) m.payload) (zeros_split 32 size few)
    ∙ over_again headed (2 + width) (zeros size) (zeros (32 - size)) m.payload (sym e ∙ sym (length-replicate size 0)) (omega arith)
    ∙ over-over buffer 0 front (2 + width) (m.payload ++ zeros (32 - size)) (omega arith) (omega arith)
    ∙ ap (over buffer 0) (sym (append_assoc front m.payload (zeros (32 - size))))
    ∙ ap (λ (n : ℕ). over buffer 0 (head m.source m.deadline n ++ m.payload ++ zeros (32 - n))) e

-- a buffer into which each field was put, one after the other
pub put_log_record : (buffer : List ℕ) (m : Message) {source deadline : ℕ} {payload first second third fourth last : List ℕ}
    → source ≡ m.source → deadline ≡ m.deadline → payload ≡ m.payload → length payload ≤ 32 → log_record_length ≤ length buffer
    → first ≡ over buffer 0 (big_endian 1 source) → second ≡ over first 1 (big_endian width deadline) → third ≡ over second (1 + width) (big_endian 1 (length payload))
    → fourth ≡ over third (2 + width) (replicate 32 0) → last ≡ over fourth (2 + width) payload → last ≡ over buffer 0 (log_record m)
put_log_record buffer m s d p few room e₁ e₂ e₃ e₄ e₅ =
    rw (e₅, e₄, e₃, e₂, e₁, s, d, p) (over-log_record buffer m (length m.payload) refl (rw (sym p) few) room)
