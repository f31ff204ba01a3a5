-- `handing::put_in_log` meets its contract: the part of the output given back is the output with the log record in it. Assumes nothing.
use mathlib.Core.Path.{refl, ap, ◌∙◌}
use Prim.Native.Nat.{◌*◌}
use native.Mathlib.Omega.{arith}
use lib.ListN.{length}
use Rattle.numbers.proofs.Over.{length_over}
use Rattle.frame.specs.Reading.{message_in}
use Rattle.rules.specs.Sizes.{width, log_record_length}
use Rattle.rules.specs.Handing.{log_record}
use Rattle.lent.specs.Record.{known}
use Rattle.handing.proofs.LogRecord.{length-readable}
use Rattle.handing.proofs.OutputPart.{over_part}
use Rattle.handing.proofs.Raising.{same_handed, larger, raised}
use Rattle.handing.proofs.put_in_log.Goals as goal

pub returns-clause-logged : goal.returns-clause-logged
returns-clause-logged c =
    let before = c.args.log.now in
    let p = c.args.state.now in
    let m = message_in width c.args.message.frame.now in
    let at = before.count * log_record_length in
    let output = over_part before.output.now at c.put_log_record.new.part (log_record m) c.put_log_record.ensures in
    record {
      known =
          same_handed (known p) (c.max-state.ensures ∙ larger _ _ m c.deadline-deadline.ensures)
          (raised p.marks.now m c.source-source.ensures c.deadline-deadline.ensures c.max.ensures)
          (raised p.barrier.now m c.source-source.ensures c.deadline-deadline.ensures c.max-2.ensures);
      log =
          record {
            output = output;
            count = refl;
            long =
                ap length output
                ∙ length_over before.output.now at (log_record m) (omega (arith, length-readable c.args.message.frame.now c.args.message.reads, c.requires));
          };
    }
