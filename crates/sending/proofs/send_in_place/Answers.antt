-- `sending::send_in_place` meets its contract: a refusal is the first check that applies, and the rest is document 01's send. Assumes nothing.
use Rattle.std.proofs.Common.{◌≡◌, ℕ, ◌-◌, List, length, take, Some, Option, is_some, refl, sym, ap, ap₂, ◌∙◌, arith, rules}
use native.Mathlib.Nat.{sub-zero}
use Rattle.numbers.specs.Buffer.{over}
use Rattle.numbers.proofs.Over.{take-over}
use Rattle.frame.specs.Frame.{frame}
use Rattle.rules.specs.Sizes.{width}
use Rattle.rules.specs.Panel.{none64}
use Rattle.rules.specs.Calls.{new_message, send_deadline}
use Rattle.rules.specs.Results.{send}
use Rattle.rules.proofs.Checks.{send_passed}
use Rattle.slots.specs.Slots.{first_slots}
use Rattle.slots.proofs.Kept.{listed_order}
use Rattle.settling.specs.Record.{stage_at}
use Rattle.lent.specs.Record.{known, parts_of, record_of}
use Rattle.parts.proofs.Answering.{refusal_in_place, valid_kept}
use Rattle.parts.proofs.Refusing.{seen_broken}
use Rattle.sending.proofs.SendDone.{Passed, numbered, checked, frame_fits, length-written, buffer-written, frame_reads, stage_handed, sent-done}
use Rattle.sending.proofs.send_in_place.Goals as goal

-- the part of the buffer that the frame occupies
part : (frame before after : List ℕ) (size : ℕ) → size ≡ length frame → after ≡ over before 0 frame → take (size - 0) after ≡ frame
part frame before after size n is =
    ap₂ (λ (n : ℕ) (l : List ℕ). take (n - 0) l) n is
    ∙ ap (λ (n : ℕ). take n (over before 0 frame)) (sub-zero (length frame))
    ∙ take-over before frame

-- a length that an answer holds, and the one that it was shown to hold
same_size : {answer : Option ℕ} {size length : ℕ} → answer ≡ Some size → answer ≡ Some length → size ≡ length
same_size held shown = cc

pub returns-in_err-check-clause-promised : goal.returns-in_err-check-clause-promised
unfolding send_deadline
returns-in_err-check-clause-promised c =
    let a = c.args in
    let lent = parts_of a.state.now a.list.now in
    refusal_in_place lent (send _ _ _ _) _ _ c.from_residual.ensures.1
    (numbered lent a.payload.now a.lifetime a.output.now a.buffer.now _ _ _ (seen_broken c.of.ensures c.broken-broken.ensures) c.passes_last-passes.ensures c.in_err-check.ensures)

pub send_deadline-deadline-requires : goal.send_deadline-deadline-requires
unfolding send_deadline
send_deadline-deadline-requires c =
    let a = c.args in
    let lent = parts_of a.state.now a.list.now in
    let n = numbered lent a.payload.now a.lifetime a.output.now a.buffer.now _ _ _ (seen_broken c.of.ensures c.broken-broken.ensures) c.passes_last-passes.ensures c.in_ok-check.ensures in
    (send_passed (record_of lent) a.payload.now a.lifetime a.output.now a.buffer.now (sym n)).deadline

pub unwrap-length-requires : goal.unwrap-length-requires
unfolding send_deadline new_message
unwrap-length-requires c =
    let a = c.args in
    let lent = parts_of a.state.now a.list.now in
    let n = numbered lent a.payload.now a.lifetime a.output.now a.buffer.now _ _ _ (seen_broken c.of.ensures c.broken-broken.ensures) c.passes_last-passes.ensures c.in_ok-check.ensures in
    let P : Passed lent a.payload.now a.lifetime a.output.now a.buffer.now =
    record { bytes = λ i. omega (arith, c.type_inv.payload i); panels = c.write.ensures.panels; passed = sym n } in
    let wrote = rw c.send_deadline-deadline.ensures at c.write.ensures.written in
    ap is_some (wrote.0 ∙ length-written P)

pub slice_bounds-frame-end : goal.slice_bounds-frame-end
unfolding send_deadline new_message
slice_bounds-frame-end c =
    let a = c.args in
    let lent = parts_of a.state.now a.list.now in
    let n = numbered lent a.payload.now a.lifetime a.output.now a.buffer.now _ _ _ (seen_broken c.of.ensures c.broken-broken.ensures) c.passes_last-passes.ensures c.in_ok-check.ensures in
    let P : Passed lent a.payload.now a.lifetime a.output.now a.buffer.now =
    record { bytes = λ i. omega (arith, c.type_inv.payload i); panels = c.write.ensures.panels; passed = sym n } in
    let wrote = rw c.send_deadline-deadline.ensures at c.write.ensures.written in
    omega (arith, same_size c.unwrap-length.ensures (wrote.0 ∙ length-written P), frame_fits P, c.write.auto.buffer)

pub invariant_of-hand : goal.invariant_of-hand
unfolding send_deadline new_message
invariant_of-hand c =
    let a = c.args in
    let lent = parts_of a.state.now a.list.now in
    let n = numbered lent a.payload.now a.lifetime a.output.now a.buffer.now _ _ _ (seen_broken c.of.ensures c.broken-broken.ensures) c.passes_last-passes.ensures c.in_ok-check.ensures in
    let P : Passed lent a.payload.now a.lifetime a.output.now a.buffer.now =
    record { bytes = λ i. omega (arith, c.type_inv.payload i); panels = c.write.ensures.panels; passed = sym n } in
    let wrote = rw c.send_deadline-deadline.ensures at c.write.ensures.written in
    let f = frame width (new_message (record_of lent) a.payload.now a.lifetime) in
    let whole = part f a.buffer.now _ _ (same_size c.unwrap-length.ensures (wrote.0 ∙ length-written P)) (wrote.1 ∙ buffer-written P) in
    record { reads = rw whole (frame_reads P) }

pub hand-requires : goal.hand-requires
unfolding send_deadline
hand-requires c =
    let a = c.args in
    let lent = parts_of a.state.now a.list.now in
    let n = numbered lent a.payload.now a.lifetime a.output.now a.buffer.now _ _ _ (seen_broken c.of.ensures c.broken-broken.ensures) c.passes_last-passes.ensures c.in_ok-check.ensures in
    let P : Passed lent a.payload.now a.lifetime a.output.now a.buffer.now =
    record { bytes = λ i. omega (arith, c.type_inv.payload i); panels = c.write.ensures.panels; passed = sym n } in
    omega (arith, (checked P).output_room)

pub settle_slots-requires-clause-slots : goal.settle_slots-requires-clause-slots
unfolding send_deadline
settle_slots-requires-clause-slots c =
    let a = c.args in
    let lent = parts_of a.state.now a.list.now in
    let n = numbered lent a.payload.now a.lifetime a.output.now a.buffer.now _ _ _ (seen_broken c.of.ensures c.broken-broken.ensures) c.passes_last-passes.ensures c.in_ok-check.ensures in
    let P : Passed lent a.payload.now a.lifetime a.output.now a.buffer.now =
    record { bytes = λ i. omega (arith, c.type_inv.payload i); panels = c.write.ensures.panels; passed = sym n } in
    rw (c.first-places.ensures.0, c.first-places.ensures.1) (listed_order _ _ (valid_kept lent (checked P).valid))

pub settle_slots-requires-clause-room : goal.settle_slots-requires-clause-room
unfolding send_deadline
settle_slots-requires-clause-room c =
    let a = c.args in
    let lent = parts_of a.state.now a.list.now in
    let n = numbered lent a.payload.now a.lifetime a.output.now a.buffer.now _ _ _ (seen_broken c.of.ensures c.broken-broken.ensures) c.passes_last-passes.ensures c.in_ok-check.ensures in
    let P : Passed lent a.payload.now a.lifetime a.output.now a.buffer.now =
    record { bytes = λ i. omega (arith, c.type_inv.payload i); panels = c.write.ensures.panels; passed = sym n } in
    omega (arith, (valid_kept lent (checked P).valid).few, (checked P).output_room, c.hand.ensures.handed.log.count, c.hand.ensures.handed.log.long)

pub returns-clause-promised : goal.returns-clause-promised
unfolding send_deadline new_message none64
returns-clause-promised c =
    let a = c.args in
    let lent = parts_of a.state.now a.list.now in
    let n = numbered lent a.payload.now a.lifetime a.output.now a.buffer.now _ _ _ (seen_broken c.of.ensures c.broken-broken.ensures) c.passes_last-passes.ensures c.in_ok-check.ensures in
    let P : Passed lent a.payload.now a.lifetime a.output.now a.buffer.now =
    record { bytes = λ i. omega (arith, c.type_inv.payload i); panels = c.write.ensures.panels; passed = sym n } in
    let wrote = rw c.send_deadline-deadline.ensures at c.write.ensures.written in
    let f = frame width (new_message (record_of lent) a.payload.now a.lifetime) in
    let size = same_size c.unwrap-length.ensures (wrote.0 ∙ length-written P) in
    let put = wrote.1 ∙ buffer-written P in
    let handed = c.hand.ensures.handed in
    let begun = stage_handed P _ (part f a.buffer.now _ _ size put) (known c.hand.new.state) c.hand.new.log.count
    c.hand.new.log.output.now handed.known handed.log.count handed.log.output in
    let new = c.settle_slots.new in
    let settles = rw (c.first-places.ensures.0, c.first-places.ensures.1, begun) at c.settle_slots.ensures.settled in
    let done =
    sent-done P (valid_kept lent (checked P).valid) new.list.slots.now
    (stage_at (known new.state) new.list.count.now (first_slots 32) new.log.count new.log.output.now) _ settles settles.panel _ _ size put in
    (search (rules, done), λ refuses. absurd (refuses refl))
