-- `log_records::record_at` meets its contract: below the count of whole log records the length byte decides. Assumes nothing.
use mathlib.Core.Path.{refl, ap, ◌∙◌}
use native.Mathlib.Omega.{arith}
use lib.ListN.{length}
use Rattle.log_records.specs.LogRecords.{log_record_at}
use Rattle.log_records.proofs.Places.{length_whole, cut_not_whole, long_not_whole, record_is}
use Rattle.log_records.proofs.record_at.Goals as goal

pub returns-then-log-index : goal.returns-then-log-index
returns-then-log-index c = cut_not_whole c.args.log.now c.args.index (omega arith)

-- its length byte, as it is read
pub returns-then-record-gt-PAYLOAD_MOST : goal.returns-then-record-gt-PAYLOAD_MOST
returns-then-record-gt-PAYLOAD_MOST c =
    let a = c.args in
    let size = length_whole a.log.now a.index (omega arith) in
    let long = rw (record_is a.log.now a.index) at c.if-record-gt-PAYLOAD_MOST.true in
    long_not_whole (log_record_at a.log.now a.index) size long

pub returns : goal.returns
returns c =
    let a = c.args in
    let is = record_is a.log.now a.index in
    record {
      bytes = is;
      size = ap length is ∙ length_whole a.log.now a.index (omega arith);
      few = c.if-record-gt-PAYLOAD_MOST.false;
      block = refl;
      place = refl;
    }
