-- `tracing::panel_trace_parts` meets its contract: a frame of version 1 is shown as its frame of version 2 is. Assumes nothing.
use Rattle.std.proofs.Common.{List, ℕ, sym, ap, ◌∙◌, arith, rules}
use mathlib.Core.Path.{subst⁻¹}
use borrow.Author.Tests.{eqb-true}
use lib.ListN.{replicate}
use lib.Seq.{length-take-le}
use Rattle.numbers.specs.Numbers.{Bytes}
use Rattle.frame.specs.Frame.{narrow, wide, longest}
use Rattle.frame.specs.Reading.{refusal}
use Rattle.visits.specs.Visiting.{trace}
use Rattle.visits.proofs.Tracing.{trace_alike}
use Rattle.lent.specs.Record.{parts, record_of}
use Rattle.checking.specs.Checks.{NotNarrow}
use Rattle.widening.proofs.Widened.{wide_fits, widened, picks_wide, widened_reads, narrow_reads, widened_message, widened_part, wide_or_not}
use Rattle.tracing.proofs.panel_trace_parts.Goals as goal

-- ---- a frame of version 1

pub widen-length-requires : goal.widen-length-requires
widen-length-requires c =
    (eqb-true (refusal narrow c.args.frame.now) 0 (sym c.is_narrow.ensures ∙ c.if-is_narrow.true), search rules)

pub slice_bounds-wide-end : goal.slice_bounds-wide-end
slice_bounds-wide-end c =
    let bytes = c.args.frame.now in
    let are : Bytes bytes = λ i. omega (arith, c.type_inv.frame i) in
    let reads = eqb-true (refusal narrow bytes) 0 (sym c.is_narrow.ensures ∙ c.if-is_narrow.true) in
    omega (arith, c.widen-length.ensures.0, wide_fits bytes are reads, c.widen-length.auto.buffer)

pub slice_bounds-trace_wide-end : goal.slice_bounds-trace_wide-end
slice_bounds-trace_wide-end c =
    let bytes = c.args.frame.now in
    let are : Bytes bytes = λ i. omega (arith, c.type_inv.frame i) in
    let reads = eqb-true (refusal narrow bytes) 0 (sym c.is_narrow.ensures ∙ c.if-is_narrow.true) in
    omega (arith, length-take-le c.widen-length.result c.widen-length.new.buffer (omega (arith, c.widen-length.ensures.0, wide_fits bytes are reads, c.widen-length.auto.buffer)))

pub trace_wide-requires : goal.trace_wide-requires
trace_wide-requires c =
    let bytes = c.args.frame.now in
    let are : Bytes bytes = λ i. omega (arith, c.type_inv.frame i) in
    let reads = eqb-true (refusal narrow bytes) 0 (sym c.is_narrow.ensures ∙ c.if-is_narrow.true) in
    let put = c.widen-length.ensures in
    let kept = widened_part bytes are reads (replicate (longest wide) 0) _ _ put.0 put.1 in
    subst⁻¹ NotNarrow kept (λ _. picks_wide bytes are reads)

pub returns-then-is_narrow : goal.returns-then-is_narrow
returns-then-is_narrow c =
    let a = c.args in
    let bytes = a.frame.now in
    let are : Bytes bytes = λ i. omega (arith, c.type_inv.frame i) in
    let reads = eqb-true (refusal narrow bytes) 0 (sym c.is_narrow.ensures ∙ c.if-is_narrow.true) in
    let put = c.widen-length.ensures in
    -- what is looked at is the frame of version 2
    let kept = widened_part bytes are reads (replicate (longest wide) 0) _ _ put.0 put.1 in
    let given = record_of (parts a.own a.time a.high a.count a.marks.now a.barrier.now a.slots.now a.floor) in
    c.trace_wide.ensures
    ∙ ap (λ (frame : List ℕ). trace given frame) kept
    ∙ trace_alike given (widened bytes are reads) bytes (widened_reads bytes are reads) (narrow_reads bytes are reads)
    (widened_message bytes are reads)

-- ---- any other

pub trace_wide-requires-2 : goal.trace_wide-requires-2
trace_wide-requires-2 c = wide_or_not _ (sym c.is_narrow.ensures ∙ c.if-is_narrow.false)
