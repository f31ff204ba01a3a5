-- `text::put_item` meets its contract. Assumes nothing.
use Rattle.std.proofs.Common.{arith}
use Rattle.text.proofs.Puts.{put_behind}
use Rattle.text.proofs.put_item.Goals as goal

pub returns-clause-bytes : goal.returns-clause-bytes
returns-clause-bytes c = put_behind (omega (arith, c.requires)) c.put_decimal_lent.ensures.bytes c.put_byte.ensures
