-- `lines::put_frame_line_lent` meets its contract: its pieces are put one behind the other. Assumes nothing.
use Rattle.std.proofs.Common.{arith}
use Rattle.text.specs.Text.{ascii}
use Rattle.lines.specs.Lines.{item}
use Rattle.lines.proofs.LinesLent.{frame_pieces_lent}
use Rattle.lines.proofs.put_frame_line_lent.Goals as goal

pub returns-clause-bytes : goal.returns-clause-bytes
unfolding ascii item
returns-clause-bytes c =
    frame_pieces_lent _ _ (omega (arith, c.requires)) c.put_start.ensures.bytes c.put_outcome.ensures.bytes c.put_byte.ensures
