-- `reading::payload` meets its contract: bytes that no check applies to have their payload behind the entries. Assumes nothing.
use mathlib.Core.Path.{refl, sym, ap, ◌∙◌}
use Prim.Native.Nat.{ℕ, ◌+◌, ◌-◌, ◌*◌}
use native.Mathlib.Omega.{arith}
use lib.ListN.{length, drop, length-drop}
use lib.Seq.{take_all}
use Rattle.frame.specs.Reading.{width_in}
use Rattle.frame.proofs.Refusals.{number_in_err}
use Rattle.frame.proofs.Passed.{reading-refused}
use Rattle.reading.proofs.Answers.{unrefused_passed, placed, payload_passed, start_passed}
use Rattle.reading.proofs.payload.Goals as goal

pub returns-then-is_err : goal.returns-then-is_err
returns-then-is_err c =
    let bs = c.args.frame.now in
    let err = number_in_err c.frame_check.result (sym c.is_err.ensures.value ∙ c.if-is_err.true) in
    let r = reading-refused (width_in bs) bs (λ none. err (c.frame_check.ensures ∙ none)) in
    record { bytes = rw r; block = refl; place = rw r }

pub version_in-version-requires : goal.version_in-version-requires
version_in-version-requires c = omega (arith, (unrefused_passed _ _ _ c.frame_check.ensures c.is_err.ensures.value c.if-is_err.false).long)

pub entry_count-requires : goal.entry_count-requires
entry_count-requires c = omega (arith, c.version_in-version.ensures, (unrefused_passed _ _ _ c.frame_check.ensures c.is_err.ensures.value c.if-is_err.false).room)

pub slice_bounds-result-count-2 : goal.slice_bounds-result-count-2
slice_bounds-result-count-2 c =
    omega (arith, placed _ _ _ _ c.width-width.ensures c.version_in-version.ensures c.entry_count.ensures.0, (unrefused_passed _ _ _ c.frame_check.ensures c.is_err.ensures.value c.if-is_err.false).room)

pub slice_bounds-result-start-2 : goal.slice_bounds-result-start-2
slice_bounds-result-start-2 c =
    omega (arith, placed _ _ _ _ c.width-width.ensures c.version_in-version.ensures c.entry_count.ensures.0, (unrefused_passed _ _ _ c.frame_check.ensures c.is_err.ensures.value c.if-is_err.false).room)

pub returns : goal.returns
returns c =
    let bs = c.args.frame.now in
    let w = c.width-width.result in
    let p = unrefused_passed _ _ _ c.frame_check.ensures c.is_err.ensures.value c.if-is_err.false in
    let at = placed _ _ _ _ c.width-width.ensures c.version_in-version.ensures c.entry_count.ensures.0 in
    record {
      bytes =
          take_all (length bs - (15 + w + w * c.entry_count.result)) (drop (15 + w + w * c.entry_count.result) bs) (rw length-drop (omega arith))
          ∙ ap (λ (n : ℕ). drop n bs) at
          ∙ sym (payload_passed (width_in bs) bs p);
      block = refl;
      place = rw (start_passed (width_in bs) bs p) (ap (λ (n : ℕ). n + c.args.frame.ref_ptr.1) at);
    }
