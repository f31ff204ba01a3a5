-- The parts of a frame of version 1, put into a buffer as version 2 has them, are the frame of version 2 of the same message; that one reads as
-- that message, and no bytes that read in version 1 do so in version 2. Assumes nothing.
use mathlib.Core.Path.{◌≡◌, sym, ap, ap₂, ◌∙◌}
use mathlib.Core.Bool.{true, false}
use mathlib.Core.Logic.{by_cases}
use mathlib.Core.List.{List, ◌++◌}
use Prim.Native.Nat.{ℕ, ◌+◌, ◌*◌, ◌≤◌}
use native.Mathlib.Decide.{ℕ_discrete}
use native.Mathlib.Omega.{arith}
use lib.Dec.{eqb}
use lib.ListN.{length, take, drop}
use borrow.Author.Tests.{eqb-false}
use Rattle.numbers.specs.Numbers.{Bytes, big_endian, big_endians}
use Rattle.numbers.specs.Buffer.{over}
use Rattle.numbers.proofs.NumberAt.{length-numbers_at}
use Rattle.numbers.proofs.Over.{take-over}
use Rattle.frame.specs.Message.{present}
use Rattle.frame.specs.Frame.{narrow, wide, version_of, frame, longest}
use Rattle.frame.specs.Reading.{version_in, width_in, source_in, deadline_in, mask_in, count_in, entries_in, payload_place, refusal, message_in, refusal_of, message_from}
use Rattle.frame.specs.Readable.{readable}
use Rattle.frame.proofs.Readable.{Readable, readable-true, true-readable}
use Rattle.frame.proofs.Widths.{width_in_wide, width_in_narrow}
use Rattle.frame.proofs.Passed.{Passed, zero_passed, passed_zero, passed_readable, mask_fits, mask_of_passed, present_passed}
use Rattle.frame.proofs.Places.{length-frame, frame_passed, frame-message}
use Rattle.frame.proofs.Theorems.{width-frame, readable_wider, frame_size}
use Rattle.writing.specs.Written.{head_of}
use Rattle.writing.proofs.Written.{head, tail, over-frame}

module _ (bs : List ℕ) (b : Bytes bs) (e : refusal narrow bs ≡ 0) where
  passed : Passed narrow bs
  passed = zero_passed narrow bs e

  -- the message has a frame of version 2
  pub wide-readable : readable wide (message_in narrow bs) ≡ true
  wide-readable =
      readable_wider narrow wide (message_in narrow bs) (omega arith)
      (readable-true narrow (message_in narrow bs) (passed_readable narrow bs b passed))

  -- whose length is
  counted : length (present (message_in narrow bs).entries) ≡ count_in narrow bs
  counted =
      ap length (present_passed narrow bs passed (mask_fits narrow bs b passed))
      ∙ length-numbers_at bs (14 + narrow) narrow (count_in narrow bs)

  pub wide-length : length (frame wide (message_in narrow bs)) ≡ 15 + wide + wide * count_in narrow bs + length (drop (payload_place narrow bs) bs)
  unfolding message_in
  wide-length = omega (arith, length-frame wide (message_in narrow bs), counted)

  pub wide_fits : length (frame wide (message_in narrow bs)) ≤ longest wide
  wide_fits = (frame_size wide (message_in narrow bs) wide-readable).1

  -- its parts, in a buffer that has room for the longest
  pub wide-parts : (buffer : List ℕ) (at : ℕ) → longest wide ≤ length buffer → at ≡ 14 + wide + wide * count_in narrow bs
      → over (over (over buffer 0 (head_of wide (source_in bs) (deadline_in narrow bs) (mask_in narrow bs))) (14 + wide) (big_endians wide (entries_in narrow bs)))
      at (big_endian 1 (length (drop (payload_place narrow bs) bs)) ++ drop (payload_place narrow bs) bs)
      ≡ over buffer 0 (frame wide (message_in narrow bs))
  unfolding message_in
  wide-parts buffer at room e =
      let m = message_in narrow bs in
      let fits = mask_fits narrow bs b passed in
      ap (λ (mask : ℕ). over (over (over buffer 0 (head_of wide m.source m.deadline mask)) (14 + wide) (big_endians wide (entries_in narrow bs))) at (tail m))
      (sym (mask_of_passed narrow bs passed fits))
      ∙ ap (λ (es : List ℕ). over (over (over buffer 0 (head wide m)) (14 + wide) (big_endians wide es)) at (tail m)) (sym (present_passed narrow bs passed fits))
      ∙ over-frame wide m buffer at (omega (arith, wide_fits)) (omega (arith, counted))

  -- ---- it reads as the message, and so do the bytes

  abbrev pub widened : List ℕ
  widened = frame wide (message_in narrow bs)

  readable-wide : Readable wide (message_in narrow bs)
  readable-wide = true-readable wide (message_in narrow bs) wide-readable

  pub picks_wide : width_in widened ≡ wide
  picks_wide = width-frame wide (message_in narrow bs) (omega arith)

  picks_narrow : width_in bs ≡ narrow
  picks_narrow = width_in_narrow bs (λ (two : version_in bs ≡ version_of wide). omega (arith, two, passed.version))

  pub widened_reads : refusal_of widened ≡ 0
  widened_reads =
      ap (λ (width : ℕ). refusal width widened) picks_wide
      ∙ passed_zero wide widened (frame_passed wide (message_in narrow bs) (omega arith) readable-wide)

  pub narrow_reads : refusal_of bs ≡ 0
  narrow_reads = ap (λ (width : ℕ). refusal width bs) picks_narrow ∙ e

  pub widened_message : message_from widened ≡ message_from bs
  widened_message =
      ap (λ (width : ℕ). message_in width widened) picks_wide
      ∙ frame-message wide (message_in narrow bs) (omega arith) readable-wide
      ∙ sym (ap (λ (width : ℕ). message_in width bs) picks_narrow)

  -- as it stands at the start of a buffer
  pub widened_part : (buffer : List ℕ) (n : ℕ) (after : List ℕ) → n ≡ length widened → after ≡ over buffer 0 widened → take n after ≡ widened
  widened_part buffer n after size put = ap₂ take size put ∙ take-over buffer widened

-- bytes that don't read in version 1 read in version 2, or not at all
pub wide_or_not : (bs : List ℕ) → eqb (refusal narrow bs) 0 ≡ false → refusal_of bs ≡ 0 → width_in bs ≡ wide
wide_or_not bs unread reads =
    by_cases (ℕ_discrete (version_in bs) (version_of wide)) (width_in_wide bs)
    (λ other.
    let e : refusal narrow bs ≡ 0 = ap (λ (width : ℕ). refusal width bs) (sym (width_in_narrow bs other)) ∙ reads in
    absurd (eqb-false (refusal narrow bs) 0 unread e))
