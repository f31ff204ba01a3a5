-- `reading::read` meets its contract: bytes that no check applies to have their fields at the places of the definition. Assumes nothing.
use mathlib.Core.Path.{◌≡◌, refl, sym, ap, ap₂, ◌∙◌}
use mathlib.Core.List.{List}
use Prim.Native.Nat.{ℕ, ◌+◌, ◌*◌}
use native.Mathlib.Omega.{arith}
use lib.Count.{ones_in}
use lib.ListN.{get_or}
use Rattle.std.specs.Prelude.{Result, Ok, Err, IsErrAnd}
use Rattle.numbers.specs.Numbers.{Bytes, numbers_at}
use Rattle.numbers.proofs.NumberAt.{number_at_one}
use Rattle.frame.specs.declared.refusal.Refusal.{Refusal}
use Rattle.frame.specs.Message.{by_panel}
use Rattle.frame.specs.Frame.{width_of}
use Rattle.frame.specs.Refusal.{number_of}
use Rattle.frame.specs.Reading.{width_in, mask_in, count_in, message_in, refusal_of, reading_of}
use Rattle.frame.proofs.Refusals.{number_of_pos}
use Rattle.frame.proofs.Passed.{reading-zero, reading-refused, length_payload, mask_of_passed, mask_fits}
use Rattle.reading.specs.declared.Fields.{Fields}
use Rattle.reading.specs.Answer.{fields_of, numbered}
use Rattle.reading.proofs.Answers.{picked_zero, picked_passed, placed}
use Rattle.reading.proofs.read.Goals as goal

-- a refusal that is handed on
refused_as : (bs : List ℕ) (answer : Result Fields Refusal) (refusal : Refusal) → number_of refusal ≡ refusal_of bs
    → IsErrAnd answer (λ given. given ≡ refusal) → numbered answer ≡ fields_of (reading_of bs)
refused_as bs (Ok fields) refusal is given = absurd given
refused_as bs (Err handed) refusal is given =
    rw (reading-refused (width_in bs) bs (λ none. omega (arith, number_of_pos refusal, is, none))) (ap (λ (n : ℕ). Err n) (ap number_of given ∙ is))

pub returns-in_err-frame_check : goal.returns-in_err-frame_check
returns-in_err-frame_check c = refused_as c.args.frame.now c.from_residual.result c.in_err-frame_check.field-0.0 c.in_err-frame_check.ensures c.from_residual.ensures.1

pub version_in-version-requires : goal.version_in-version-requires
version_in-version-requires c = omega (arith, (picked_passed _ 0 c.args.frame.now c.in_ok-frame_check.ensures refl refl).long)

pub number_at-mask-requires : goal.number_at-mask-requires
number_at-mask-requires c =
    omega (arith, c.width-width.ensures, (picked_passed _ 0 c.args.frame.now c.in_ok-frame_check.ensures refl c.version_in-version.ensures).room)

pub entries_by_panel-entries-requires : goal.entries_by_panel-entries-requires
entries_by_panel-entries-requires c =
    let w = width_of c.version_in-version.result in
    let mask = c.number_at-mask.ensures.0 ∙ ap (λ (k : ℕ). mask_in k c.args.frame.now) c.width-width.ensures in
    omega (
      arith,
      ap (λ (m : ℕ). w * ones_in 64 m) mask,
      (picked_passed w 0 c.args.frame.now c.in_ok-frame_check.ensures refl c.version_in-version.ensures).room,
    )

pub bounds-frame-5 : goal.bounds-frame-5
bounds-frame-5 c = omega (arith, (picked_passed _ 0 c.args.frame.now c.in_ok-frame_check.ensures refl refl).long)

pub deadline_in-requires : goal.deadline_in-requires
deadline_in-requires c = omega (arith, (picked_passed _ 0 c.args.frame.now c.in_ok-frame_check.ensures refl refl).long)

pub entry_count-requires : goal.entry_count-requires
entry_count-requires c =
    omega (arith, (picked_passed _ 0 c.args.frame.now c.in_ok-frame_check.ensures refl c.version_in-version.ensures).room)

pub bounds-frame-width : goal.bounds-frame-width
bounds-frame-width c =
    omega (
      arith,
      placed _ _ _ _ c.width-width.ensures c.version_in-version.ensures c.entry_count.ensures.0,
      (picked_passed _ 0 c.args.frame.now c.in_ok-frame_check.ensures refl refl).room,
    )

pub returns : goal.returns
unfolding message_in
returns c =
    let bs = c.args.frame.now in
    let w = width_of c.version_in-version.result in
    let picked = c.version_in-version.ensures in
    let zero = picked_zero w 0 bs c.in_ok-frame_check.ensures refl picked in
    let p = picked_passed w 0 bs c.in_ok-frame_check.ensures refl picked in
    let b : Bytes c.args.frame.now = λ i. (c.type_inv.frame i).fits in
    let mask = c.number_at-mask.ensures.0 ∙ ap (λ (k : ℕ). mask_in k bs) c.width-width.ensures in
    let entries = c.entries_by_panel-entries.ensures ∙ ap (λ (m : ℕ). by_panel 64 m (numbers_at bs (14 + w) w (ones_in 64 m))) mask in
    let source = sym (number_at_one bs 5 (omega (arith, p.long))) in
    let size =
    ap₂ (λ (k n : ℕ). get_or bs (14 + k + k * n) 0) c.width-width.ensures c.entry_count.ensures.0
    ∙ sym (number_at_one bs (14 + w + w * count_in w bs) (omega (arith, p.room)))
    ∙ sym (length_payload w bs p) in
    rw (← picked, reading-zero w bs zero)
    (λ i. Ok record {
      source = source i;
      deadline = c.deadline_in.ensures i;
      mask = (mask ∙ sym (mask_of_passed w bs p (mask_fits w bs b p))) i;
      entries = entries i;
      payload_length = size i;
    })
