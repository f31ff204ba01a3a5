-- `handing::payload` meets its contract: the payload stands behind the entries and the length byte. Assumes nothing.
use native.Mathlib.Omega.{arith}
use Rattle.handing.proofs.LogRecord.{payload_place}
use Rattle.handing.proofs.payload.Goals as goal

pub slice_bounds-result-count : goal.slice_bounds-result-count
slice_bounds-result-count c = (payload_place _ _ c.args.message.reads c.mask.ensures c.mask.type_inv).0

pub slice_bounds-result-start : goal.slice_bounds-result-start
slice_bounds-result-start c = omega (arith, (payload_place _ _ c.args.message.reads c.mask.ensures c.mask.type_inv).0)

pub returns : goal.returns
returns c = (payload_place _ _ c.args.message.reads c.mask.ensures c.mask.type_inv).1
