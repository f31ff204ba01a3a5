use Rattle.std.proofs.Common.{◌≡◌, length}
use Rattle.lent.specs.Record.{parts_of, record_of}
use Rattle.listing.specs.Step.{reached}
use Rattle.list.proofs.Printing.{Printing, bytes_left}
use Rattle.list.proofs.input.print_listing.Given as goal

abbrev pub invariant-loop-next : goal.invariant-loop-next
invariant-loop-next g l =
    Printing l.input (g.W.Write.contents l.initial.writer) (g.W.Write.contents l.writer)
    (reached (record_of (parts_of l.state l.list)) l.next) l.written
    × (length l.text.buffer.now ≡ length l.initial.text.buffer.now)

abbrev pub decreases-loop-next : goal.decreases-loop-next
decreases-loop-next g l = bytes_left l.input l.next
