-- `list::input::list_input` meets its contract. Assumes nothing.
use Rattle.std.proofs.Common.{List, ℕ, arith}
use Rattle.std.specs.Io.KnownBytes.{Appends}
use Rattle.list.specs.Written.{AppendsSome}
use Rattle.list.proofs.Printing.{on_err}
use Rattle.list.proofs.Taken.{all_listed}
use Rattle.list.proofs.input.list_input.Goals as goal

pub returns-clause-ok : goal.returns-clause-ok
returns-clause-ok g c =
    let W = g.W.Write.contents in
    all_listed _ _ _ (λ (l : List ℕ). Appends (W c.args.writer.now) (W c.print_listing.new.writer) l) (omega arith) c.in_ok-length.ensures.bytes
    c.in_ok-print_listing.ensures.bytes

pub returns-in_err-print_listing-clause-err : goal.returns-in_err-print_listing-clause-err
returns-in_err-print_listing-clause-err g c =
    let W = g.W.Write.contents in
    on_err _
    (all_listed _ _ _ (λ (l : List ℕ). AppendsSome (W c.args.writer.now) (W c.print_listing.new.writer) l) (omega arith) c.in_ok-length.ensures.bytes
    c.in_err-print_listing.ensures.err)
