-- `handing::put_log_record` meets its contract: each field goes behind those before it. Assumes nothing.
use Rattle.frame.specs.Reading.{message_in}
use Rattle.rules.specs.Sizes.{width}
use Rattle.handing.proofs.LogRecord.{put_log_record}
use Rattle.handing.proofs.put_log_record.Goals as goal

pub returns : goal.returns
returns c =
    put_log_record c.args.part.now (message_in width c.args.message.frame.now) c.source.ensures c.deadline.ensures c.payload-payload.ensures.0
    c.payload-payload.ensures.1 c.requires c.put_number.ensures c.put_number-2.ensures c.put_number-3.ensures c.put_bytes.ensures
    c.put_bytes-2.ensures
