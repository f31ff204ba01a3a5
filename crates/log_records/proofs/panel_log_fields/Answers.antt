-- `log_records::panel_log_fields` meets its contract: the fields of a whole log record stand at their places in it. Assumes nothing.
use mathlib.Core.Path.{ap, ◌∙◌}
use Rattle.log_records.specs.LogRecords.{fields_in}
use Rattle.log_records.proofs.Places.{fields_read, fields-none}
use Rattle.log_records.proofs.panel_log_fields.Goals as goal

pub returns-in_default : goal.returns-in_default
returns-in_default c =
    let zero = c.default.ensures in
    rw (fields-none c.args.log.now c.args.index c.in_default.ensures) (λ i. record { deadline = zero.0 i; source = zero.1.0 i; length = zero.1.1 i })

pub returns : goal.returns
returns c =
    let w = c.in-Some.ensures in
    fields_read c.in-Some.record.now w.size w.few c.number_at.result c.number_at.ensures.0 ∙ ap fields_in w.bytes
