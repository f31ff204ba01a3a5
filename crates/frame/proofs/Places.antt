-- The fields of a frame stand at the places where the reading looks for them, so that it finds the message. Assumes nothing.
use mathlib.Core.Path.{◌≡◌, refl, ap, ◌∙◌, subst}
use mathlib.Core.List.{List, [], ◌∷◌, flatten, append-nil}
use Prim.Native.Nat.{ℕ, zero, suc, ◌+◌, ◌*◌, ◌^◌, ◌≤◌, ◌<◌}
use native.Mathlib.Nat.{lt_trans}
use native.Mathlib.Omega.{arith}
use lib.ListN.{length, get_or, take, drop, length-append}
use lib.Seq.{drop-append-add}
use lib.Count.{ones_in}
use Rattle.numbers.specs.Numbers.{Bytes, big_endian, big_endians, number_at, numbers_at}
use Rattle.numbers.proofs.BigEndian.{length-big_endian, length-big_endians}
use Rattle.numbers.proofs.Bytes.{Bytes-append, Bytes-big_endian, Bytes-big_endians}
use Rattle.numbers.proofs.NumberAt.{number_at_big_endian, numbers_at-big_endians, number_at_drop, numbers_at-drop}
use Rattle.frame.specs.Message.{Message, mask_of, present, by_panel}
use Rattle.frame.specs.Frame.{mark, version_of, Width, fields, frame}
use Rattle.frame.specs.Reading.{mark_in, version_in, source_in, deadline_in, mask_in, count_in, entries_in, length_in, payload_place, message_in}
use Rattle.frame.proofs.Entries.{mask_of_fits, ones_in_mask_of, present-lt, present_earlier, by_panel-present}
use Rattle.frame.proofs.Readable.{Readable}
use Rattle.frame.proofs.Passed.{Passed}

-- ---- a field behind those before it

drop-fields : (fs : List (List ℕ)) (i : ℕ) → drop (length (flatten (take i fs))) (flatten fs) ≡ flatten (drop i fs)
unfolding flatten
drop-fields fs zero = refl
drop-fields [] (suc i) = refl
drop-fields (f ∷ fs) (suc i) = rw (length-append, drop-append-add f (flatten fs) (length (flatten (take i fs)))) (drop-fields fs i)

module _ (fs : List (List ℕ)) (i at : ℕ) (place : at ≡ length (flatten (take i fs))) where
  drop_field : drop at (flatten fs) ≡ flatten (drop i fs)
  drop_field = rw place (drop-fields fs i)

  number_at_field : (width n : ℕ) {rest : List (List ℕ)} → drop i fs ≡ big_endian width n ∷ rest → n < 256 ^ width → number_at (flatten fs) at width ≡ n
  unfolding flatten
  number_at_field width n {rest} e h =
      number_at_drop (flatten fs) at width ∙ ap (λ (l : List ℕ). number_at l 0 width) (drop_field ∙ ap flatten e)
      ∙ number_at_big_endian width n (flatten rest) h

  numbers_at_field : (width : ℕ) (ns : List ℕ) {rest : List (List ℕ)} → drop i fs ≡ big_endians width ns ∷ rest
      → ((j : ℕ) → get_or ns j 0 < 256 ^ width) → numbers_at (flatten fs) at width (length ns) ≡ ns
  unfolding flatten
  numbers_at_field width ns {rest} e h =
      numbers_at-drop (flatten fs) at width (length ns) ∙ ap (λ (l : List ℕ). numbers_at l 0 width (length ns)) (drop_field ∙ ap flatten e)
      ∙ numbers_at-big_endians width ns (flatten rest) h

-- ---- the places of a frame's fields

module _ (width : ℕ) (m : Message) where
  entry_bytes : length (big_endians width (present m.entries)) ≡ width * length (present m.entries)
  entry_bytes = length-big_endians width (present m.entries)

  entries_fit : Readable width m → (i : ℕ) → get_or (present m.entries) i 0 < 256 ^ width
  entries_fit r i = lt_trans (present-lt m.deadline m.entries r.deadline r.entries i) r.fits

  pub length-frame : length (frame width m) ≡ 15 + width + width * length (present m.entries) + length m.payload
  unfolding frame fields flatten
  length-frame = simp (length-append, length-big_endian) (omega (arith, entry_bytes))

  -- a frame is bytes
  pub Bytes-frame : Width width → Readable width m → Bytes (frame width m)
  unfolding frame fields flatten
  Bytes-frame w r =
      let few = mask_of_fits m.entries r.panels in
      Bytes-append (big_endian 3 mark) _ (Bytes-big_endian 3 mark (omega arith))
      (Bytes-append (big_endian 2 (version_of width)) _ (Bytes-big_endian 2 (version_of width) (omega arith))
      (Bytes-append (big_endian 1 m.source) _ (Bytes-big_endian 1 m.source (omega (arith, r.source)))
      (Bytes-append (big_endian width m.deadline) _ (Bytes-big_endian width m.deadline r.fits)
      (Bytes-append (big_endian 8 (mask_of m.entries)) _ (Bytes-big_endian 8 (mask_of m.entries) (omega arith))
      (Bytes-append (big_endians width (present m.entries)) _ (Bytes-big_endians width (present m.entries) (entries_fit r))
      (Bytes-append (big_endian 1 (length m.payload)) _ (Bytes-big_endian 1 (length m.payload) (omega (arith, r.payload)))
      (Bytes-append m.payload [] r.bytes (λ i. omega arith))))))))

  mark_place : mark_in (frame width m) ≡ mark
  unfolding frame fields flatten
  mark_place = number_at_field (fields width m) 0 0 refl 3 mark refl (omega arith)

  pub version_place : Width width → version_in (frame width m) ≡ version_of width
  unfolding frame fields flatten
  version_place w = number_at_field (fields width m) 1 3 (simp (length-append, length-big_endian)) 2 (version_of width) refl (omega arith)

  source_place : m.source < 64 → source_in (frame width m) ≡ m.source
  unfolding frame fields flatten
  source_place h = number_at_field (fields width m) 2 5 (simp (length-append, length-big_endian)) 1 m.source refl (omega arith)

  deadline_place : m.deadline < 256 ^ width → deadline_in width (frame width m) ≡ m.deadline
  unfolding frame fields flatten
  deadline_place h = number_at_field (fields width m) 3 6 (simp (length-append, length-big_endian)) width m.deadline refl h

  mask_place : mask_of m.entries < 2 ^ 64 → mask_in width (frame width m) ≡ mask_of m.entries
  unfolding frame fields flatten
  mask_place h =
      number_at_field (fields width m) 4 (6 + width) (simp (length-append, length-big_endian) (omega arith)) 8 (mask_of m.entries) refl (omega arith)

  entries_place : ((i : ℕ) → get_or (present m.entries) i 0 < 256 ^ width)
      → numbers_at (frame width m) (14 + width) width (length (present m.entries)) ≡ present m.entries
  unfolding frame fields flatten
  entries_place h =
      numbers_at_field (fields width m) 5 (14 + width) (simp (length-append, length-big_endian) (omega arith)) width (present m.entries) refl h

  length_place : length m.payload ≤ 32 → number_at (frame width m) (14 + width + width * length (present m.entries)) 1 ≡ length m.payload
  unfolding frame fields flatten
  length_place h =
      number_at_field (fields width m) 6 (14 + width + width * length (present m.entries))
      (simp (length-append, length-big_endian) (omega (arith, entry_bytes)))
      1
      (length m.payload)
      refl
      (omega arith)

  payload_place_lem : drop (15 + width + width * length (present m.entries)) (frame width m) ≡ m.payload
  unfolding frame fields flatten
  payload_place_lem =
      drop_field (fields width m) 7 (15 + width + width * length (present m.entries))
      (simp (length-append, length-big_endian) (omega (arith, entry_bytes)))
      ∙ append-nil m.payload

-- ---- what the reading finds there

pub record Found (width : ℕ) (m : Message) (bs : List ℕ) : Type 0 where
  pub mark : mark_in bs ≡ mark
  pub version : version_in bs ≡ version_of width
  pub source : source_in bs ≡ m.source
  pub deadline : deadline_in width bs ≡ m.deadline
  pub mask : mask_in width bs ≡ mask_of m.entries
  pub count : count_in width bs ≡ length (present m.entries)
  pub entries : entries_in width bs ≡ present m.entries
  pub size : length_in width bs ≡ length m.payload
  pub whole : length bs ≡ payload_place width bs + length m.payload
  pub payload : drop (payload_place width bs) bs ≡ m.payload

pub frame_found : (width : ℕ) (m : Message) → Width width → Readable width m → Found width m (frame width m)
frame_found width m w r =
    let mask = mask_place width m (mask_of_fits m.entries r.panels) in
    let count : count_in width (frame width m) ≡ length (present m.entries) =
    ap (ones_in 64) mask
    ∙ subst (λ (n : ℕ). ones_in n (mask_of m.entries) ≡ length (present m.entries)) r.panels (ones_in_mask_of m.entries) in
    record {
      mark = mark_place width m;
      version = version_place width m w;
      source = source_place width m r.source;
      deadline = deadline_place width m r.fits;
      mask = mask;
      count = count;
      entries = rw count (entries_place width m (entries_fit width m r));
      size = rw count (length_place width m r.payload);
      whole = rw count (length-frame width m);
      payload = rw count (payload_place_lem width m);
    }

-- ---- so no check applies, and the message is found

pub frame_passed : (width : ℕ) (m : Message) → Width width → Readable width m → Passed width (frame width m)
frame_passed width m w r =
    let f = frame_found width m w r in
    record {
      long = omega (arith, f.whole);
      mark = f.mark;
      version = f.version;
      source = omega (arith, f.source, r.source);
      deadline = omega (arith, f.deadline, r.deadline);
      room = omega (arith, f.whole);
      entries = rw (f.deadline, f.entries) (present_earlier m.deadline m.entries r.entries);
      payload = omega (arith, f.size, r.payload);
      whole = omega (arith, f.size, f.whole);
    }

pub frame-message : (width : ℕ) (m : Message) → Width width → Readable width m → message_in width (frame width m) ≡ m
unfolding message_in
frame-message width m w r =
    let f = frame_found width m w r in
    let es : by_panel 64 (mask_in width (frame width m)) (entries_in width (frame width m)) ≡ m.entries =
    rw (f.entries, f.mask, ← r.panels) (by_panel-present m.entries) in
    λ i. record { source = f.source i; deadline = f.deadline i; entries = es i; payload = f.payload i }
