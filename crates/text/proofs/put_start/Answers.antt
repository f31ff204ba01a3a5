-- `text::put_start` meets its contract. Assumes nothing.
use Rattle.std.proofs.Common.{arith}
use Rattle.text.specs.Text.{ascii}
use Rattle.text.proofs.Puts.{put_behind}
use Rattle.text.proofs.put_start.Goals as goal

pub returns-clause-bytes : goal.returns-clause-bytes
unfolding ascii
returns-clause-bytes c = put_behind (omega (arith, c.requires)) c.put_words.ensures c.put_item.ensures.bytes
