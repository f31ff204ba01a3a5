-- `slots::kept_frame` meets its contract. Assumes nothing.
use mathlib.Core.Path.{◌≡◌, sym, ap, ◌∙◌}
use Prim.Native.Nat.{ℕ, ◌+◌, ◌*◌, ◌-◌}
use native.Mathlib.Omega.{arith}
use lib.ListN.{take, drop}
use Rattle.slots.specs.Slots.{slot_length}
use Rattle.slots.proofs.Framed.{frame_at_short}
use Rattle.slots.proofs.kept_frame.Goals as goal

pub overflow_add-end : goal.overflow_add-end
overflow_add-end c = omega (arith, c.number_at-length.ensures.0, c.requires)

pub slice_bounds-result-end : goal.slice_bounds-result-end
slice_bounds-result-end c = omega (arith, c.number_at-length.ensures.0, c.requires)

pub returns : goal.returns
returns c =
    let a = c.args in
    let size : a.slot * slot_length + 2 + c.number_at-length.result - (a.slot * slot_length + 2) ≡ c.number_at-length.result = omega arith in
    ap (λ (k : ℕ). take k (drop (a.slot * slot_length + 2) a.slots.now)) (size ∙ c.number_at-length.ensures.0)
    ∙ sym (frame_at_short _ _ c.requires.2)
