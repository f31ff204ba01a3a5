-- `exports::panel_receive_parts` meets its contract: the call in place on the parts promises it. Assumes nothing.
use Rattle.std.proofs.Common.{rules}
use Rattle.exports.proofs.panel_receive_parts.Goals as goal

pub returns : goal.returns
returns c = search (rules, c.receive_in_place.ensures.promised)
