-- `receiving::receive_in_place` meets its contract: a frame of version 1 is received as its frame of version 2 is. Assumes nothing.
use Rattle.std.proofs.Common.{List, ℕ, sym, ap, ◌∙◌, arith, rules}
use mathlib.Core.Path.{subst⁻¹}
use borrow.Author.Tests.{eqb-true}
use lib.ListN.{replicate}
use lib.Seq.{length-take-le}
use Rattle.numbers.specs.Numbers.{Bytes}
use Rattle.frame.specs.Frame.{narrow, wide, longest}
use Rattle.frame.specs.Reading.{refusal}
use Rattle.rules.specs.Results.{receive, defined}
use Rattle.rules.proofs.Alike.{receive_alike}
use Rattle.lent.specs.Record.{parts_of, record_of}
use Rattle.checking.specs.Checks.{NotNarrow}
use Rattle.widening.proofs.Widened.{wide_fits, widened, picks_wide, widened_reads, narrow_reads, widened_message, widened_part, wide_or_not}
use Rattle.receiving.proofs.receive_in_place.Goals as goal

-- ---- a frame of version 1

pub widen-length-requires : goal.widen-length-requires
widen-length-requires c =
    (eqb-true (refusal narrow c.args.frame.now) 0 (sym c.is_narrow.ensures ∙ c.if-is_narrow.true), search rules)

pub slice_bounds-wide-end : goal.slice_bounds-wide-end
slice_bounds-wide-end c =
    let bytes = c.args.frame.now in
    let are : Bytes bytes = λ i. omega (arith, c.type_inv.frame i) in
    let reads = eqb-true (refusal narrow bytes) 0 (sym c.is_narrow.ensures ∙ c.if-is_narrow.true) in
    omega (arith, c.widen-length.ensures.0, wide_fits bytes are reads, c.widen-length.auto.buffer)

pub slice_bounds-receive_wide-end : goal.slice_bounds-receive_wide-end
slice_bounds-receive_wide-end c =
    let bytes = c.args.frame.now in
    let are : Bytes bytes = λ i. omega (arith, c.type_inv.frame i) in
    let reads = eqb-true (refusal narrow bytes) 0 (sym c.is_narrow.ensures ∙ c.if-is_narrow.true) in
    omega (arith, length-take-le c.widen-length.result c.widen-length.new.buffer (omega (arith, c.widen-length.ensures.0, wide_fits bytes are reads, c.widen-length.auto.buffer)))

pub receive_wide-requires : goal.receive_wide-requires
receive_wide-requires c =
    let bytes = c.args.frame.now in
    let are : Bytes bytes = λ i. omega (arith, c.type_inv.frame i) in
    let reads = eqb-true (refusal narrow bytes) 0 (sym c.is_narrow.ensures ∙ c.if-is_narrow.true) in
    let put = c.widen-length.ensures in
    let kept = widened_part bytes are reads (replicate (longest wide) 0) _ _ put.0 put.1 in
    subst⁻¹ NotNarrow kept (λ _. picks_wide bytes are reads)

pub returns-then-is_narrow-clause-promised : goal.returns-then-is_narrow-clause-promised
returns-then-is_narrow-clause-promised c =
    let a = c.args in
    let bytes = a.frame.now in
    let are : Bytes bytes = λ i. omega (arith, c.type_inv.frame i) in
    let reads = eqb-true (refusal narrow bytes) 0 (sym c.is_narrow.ensures ∙ c.if-is_narrow.true) in
    let put = c.widen-length.ensures in
    -- what is received is the frame of version 2
    let kept = widened_part bytes are reads (replicate (longest wide) 0) _ _ put.0 put.1 in
    let given = record_of (parts_of a.state.now a.list.now) in
    let output = a.output.now in (
      c.receive_wide.ensures.promised.0
          ∙ ap (λ (frame : List ℕ). defined given (receive frame output)) kept
          ∙ receive_alike given output (widened bytes are reads) bytes (widened_reads bytes are reads) (narrow_reads bytes are reads)
          (widened_message bytes are reads),
      c.receive_wide.ensures.promised.1,
    )

-- ---- any other

pub receive_wide-requires-2 : goal.receive_wide-requires-2
receive_wide-requires-2 c = wide_or_not _ (sym c.is_narrow.ensures ∙ c.if-is_narrow.false)
