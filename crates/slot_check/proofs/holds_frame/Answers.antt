-- `slot_check::holds_frame` meets its contract: the answer is whether the numbers in the slot are those of a readable frame (`Holds`). The
-- loop's invariant: as many entries are left as bits, and they decide (`Left`). Assumes nothing.
use mathlib.Core.Path.{◌≡◌, refl, sym, ap, ◌∙◌}
use mathlib.Core.Bool.{false}
use mathlib.Core.List.{List}
use Prim.Native.Nat.{ℕ, ◌+◌, ◌*◌, ◌/◌, ◌≤◌}
use native.Mathlib.Omega.{arith}
use borrow.Author.Tests.{ne_eqb}
use lib.Count.{ones_in}
use lib.Dec.{eqb}
use lib.ListN.{length}
use Rattle.numbers.specs.Numbers.{Bytes, number_at}
use Rattle.frame.specs.Reading.{refusal}
use Rattle.rules.specs.Sizes.{width}
use Rattle.slots.specs.Slots.{slot_length, framed}
use Rattle.slot_check.proofs.InSlot.{count_of, payload_of, Holds, holds_reads, reads_holds, eqb_both}
use Rattle.slot_check.proofs.Entries.{fails_unheld, zero_fails, late_fails, entry_passes, ended, all_passed}
use Rattle.slot_check.proofs.holds_frame.Goals as goal

-- what refutes `Holds` of the slot is an answer of false
refused : (bs : List ℕ) → Bytes bs → slot_length ≤ length bs → (Holds bs → ⊥) → false ≡ eqb (refusal width (framed bs)) 0
refused bs bytes long unheld = sym (ne_eqb _ _ (λ reads. unheld (reads_holds bs bytes long reads)))

payload_is : (bs : List ℕ) (at length : ℕ) → at ≡ 16 + width + width * count_of bs → length ≡ number_at bs at 1 → length ≡ payload_of bs
payload_is bs at length place read = read ∙ ap (λ (n : ℕ). number_at bs n 1) place

pub returns-then-head-ne-SLOT_HEAD : goal.returns-then-head-ne-SLOT_HEAD
returns-then-head-ne-SLOT_HEAD c =
    refused c.args.slot.now (λ i. omega (arith, c.type_inv.slot i)) c.requires
    (λ h. omega (arith, h.head, c.if-head-ne-SLOT_HEAD.true, c.number_at-head.ensures.0))

pub returns-then-deadline-eq0 : goal.returns-then-deadline-eq0
returns-then-deadline-eq0 c =
    refused c.args.slot.now (λ i. omega (arith, c.type_inv.slot i)) c.requires
    (λ h. h.deadline (sym c.number_at-deadline.ensures.0 ∙ c.if-deadline-eq0.true))

pub loop-bits-init : goal.loop-bits-init
loop-bits-init c =
    let mask = ap (ones_in 64) c.number_at-bits.ensures.0 in
    record { fits = omega (arith, c.number_at-bits.ensures.1); place = omega (arith, mask); decide = rw mask refl }

pub returns-then-entry-eq0 : goal.returns-then-entry-eq0
returns-then-entry-eq0 c =
    let l = c.loop-bits in
    let bs = c.args.slot.now in
    refused bs (λ i. omega (arith, c.type_inv.slot i)) c.requires
    (fails_unheld bs _ c.number_at-deadline.ensures.0
    (zero_fails bs _ l.bits l.at l.invariant (omega (arith, c.loop-bits-test.true)) _ c.number_at-entry.ensures.0 c.if-entry-eq0.true))

pub returns-then-deadline-entry : goal.returns-then-deadline-entry
returns-then-deadline-entry c =
    let l = c.loop-bits in
    let bs = c.args.slot.now in
    refused bs (λ i. omega (arith, c.type_inv.slot i)) c.requires
    (fails_unheld bs _ c.number_at-deadline.ensures.0
    (late_fails bs _ l.bits l.at l.invariant (omega (arith, c.loop-bits-test.true)) _ c.number_at-entry.ensures.0 c.if-deadline-entry.true))

pub loop-bits-preserved : goal.loop-bits-preserved
loop-bits-preserved c =
    let l = c.loop-bits in
    entry_passes c.args.slot.now _ l.bits l.at l.invariant (omega (arith, c.loop-bits-test.true)) _ c.number_at-entry.ensures.0
    (omega (arith, c.if-entry-eq0.false)) c.if-deadline-entry.false

pub returns-then-length-gt32 : goal.returns-then-length-gt32
returns-then-length-gt32 c =
    let l = c.loop-bits in
    let bs = c.args.slot.now in
    let payload = payload_is bs l.at _ (ended bs _ l.bits l.at l.invariant c.loop-bits-test.false) c.number_at-length.ensures.0 in
    refused bs (λ i. omega (arith, c.type_inv.slot i)) c.requires (λ h. omega (arith, c.if-length-gt32.true, payload, h.payload))

pub returns : goal.returns
returns c =
    let l = c.loop-bits in
    let bs = c.args.slot.now in
    let known : Bytes c.args.slot.now = λ i. omega (arith, c.type_inv.slot i) in
    let head = c.number_at-head.ensures.0 in
    let due = c.number_at-deadline.ensures.0 in
    let end = ended bs _ l.bits l.at l.invariant c.loop-bits-test.false in
    let payload = payload_is bs l.at _ end c.number_at-length.ensures.0 in
    eqb_both (c.number_at-head.result / 281474976710656 + 1) (l.at + c.number_at-length.result) _ _
    (λ whole. holds_reads bs known c.requires (record {
      head = omega (arith, head, c.if-head-ne-SLOT_HEAD.false);
      deadline = λ z. c.if-deadline-eq0.false (due ∙ z);
      entries = rw (← due) (all_passed bs _ l.bits l.at l.invariant c.loop-bits-test.false);
      payload = omega (arith, payload, c.if-length-gt32.false);
      whole = omega (arith, head, whole, payload, end);
    }))
    (λ reads. omega (arith, head, payload, end, (reads_holds bs known c.requires reads).whole))
