-- `list::input::print_listing` meets its contract: it has written the parts put so far, which are together the listing where nothing is left.
-- Assumes nothing.
use Rattle.std.proofs.Common.{◌∙◌, refl, ap, length, arith}
use Rattle.text.specs.Text.{ascii}
use Rattle.listing_parts.proofs.Theorems.{parts_are_listing_lent}
use Rattle.list.proofs.Printing.{part_room, part-there, printing-next, long-there, long-all, long-got, long_failed, on_err, printing_failed, printing-none}
use Rattle.list.proofs.input.print_listing.Goals as goal

pub write_part-requires : goal.write_part-requires
unfolding ascii
write_part-requires g c = long-there c.args.input.now (omega arith)

pub returns-then-input-gt-LONGEST-clause-all : goal.returns-then-input-gt-LONGEST-clause-all
unfolding ascii
returns-then-input-gt-LONGEST-clause-all g c = long-all _ (omega arith) _ c.write_part.ensures.place

pub returns-then-input-gt-LONGEST-clause-bytes : goal.returns-then-input-gt-LONGEST-clause-bytes
unfolding ascii
returns-then-input-gt-LONGEST-clause-bytes g c = long-got _ (omega arith) _ _ _ c.write_part.ensures.bytes

pub returns-then-input-gt-LONGEST-clause-err : goal.returns-then-input-gt-LONGEST-clause-err
unfolding ascii
returns-then-input-gt-LONGEST-clause-err g c = long_failed _ (omega arith) _ _ _ c.write_part.ensures.err

pub loop-next-init : goal.loop-next-init
loop-next-init g c = (printing-none c.start.ensures, refl)

pub write_part-requires-in-Continue : goal.write_part-requires-in-Continue
write_part-requires-in-Continue g c =
    let l = c.loop-next.invariant in
    let printing = rw c.in-Continue.is at l.0 in
    let put = c.list_part_lent-next.ensures.put in
    rw c.as_bytes.ensures (part-there printing (omega arith) put (part_room printing (omega arith) put (omega (arith, l.1))))

pub returns-in_err-written-clause-err : goal.returns-in_err-written-clause-err
returns-in_err-written-clause-err g c =
    on_err _
    (printing_failed (rw c.in-Continue.is at c.loop-next.invariant.0) (omega arith) c.list_part_lent-next.ensures.put _
    (rw c.as_bytes.ensures at c.in_err-written.ensures.err))

pub loop-next-preserved : goal.loop-next-preserved
loop-next-preserved g c =
    let l = c.loop-next.invariant in
    let printing = rw c.in-Continue.is at l.0 in
    let put = c.list_part_lent-next.ensures.put in (
      rw (c.in_ok-written.ensures.place, c.as_bytes.ensures)
          (printing-next printing (omega arith) put (omega (arith, l.1)) (part_room printing (omega arith) put (omega (arith, l.1)))
          (rw c.as_bytes.ensures at c.in_ok-written.ensures.bytes)),
      put.put.put.kept ∙ l.1,
    )

pub returns-clause-all : goal.returns-clause-all
returns-clause-all g c =
    let l = c.loop-next in
    l.invariant.0.count ∙ ap length (parts_are_listing_lent (omega arith) (rw c.in_default.is at l.invariant.0.put))

pub returns-clause-bytes : goal.returns-clause-bytes
returns-clause-bytes g c =
    let l = c.loop-next in
    rw (parts_are_listing_lent (omega arith) (rw c.in_default.is at l.invariant.0.put)) at l.invariant.0.got
