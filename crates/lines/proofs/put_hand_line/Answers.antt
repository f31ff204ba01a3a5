-- `lines::put_hand_line` meets its contract: its pieces are put one behind the other. Assumes nothing.
use Rattle.std.proofs.Common.{◌∙◌, ap, arith}
use Rattle.log_records.specs.declared.LogFields.{LogFields}
use Rattle.text.specs.Text.{ascii}
use Rattle.lines.specs.Lines.{item}
use Rattle.lines.proofs.LinesLent.{hand_pieces_lent}
use Rattle.lines.proofs.put_hand_line.Goals as goal

pub returns-clause-bytes : goal.returns-clause-bytes
unfolding ascii item
returns-clause-bytes c =
    let fields = c.panel_log_fields-fields.ensures in
    hand_pieces_lent _ _ _ _ (omega (arith, c.requires)) (c.from.ensures ∙ ap (λ (f : LogFields). f.source) fields)
    (ap (λ (f : LogFields). f.deadline) fields) c.log_payload.ensures.bytes c.put_start.ensures.bytes c.put_item.ensures.bytes
    c.put_payload.ensures.bytes c.put_byte.ensures
