-- `by_value::set_back::panel_set_back` meets its contract: its only check is that of 26, and the time is the lower of the two. Assumes nothing.
use Rattle.panel.specs.Record.{parts_of}
use Rattle.setting_back.proofs.SettingBack.{set_back_refused, set_back_done}
use Rattle.by_value.proofs.set_back.panel_set_back.Goals as goal

pub returns-in-Ok-clause-promised : goal.returns-in-Ok-clause-promised
returns-in-Ok-clause-promised c =
    let (whole, lower) = c.in-Ok.ensures in
    (set_back_done (parts_of c.args.p) c.args.reading whole c.in-Ok.lower lower).0

pub returns-in-Err-clause-promised : goal.returns-in-Err-clause-promised
returns-in-Err-clause-promised c =
    let (broken, number) = c.in-Err.ensures in
    rw number (set_back_refused (parts_of c.args.p) c.args.reading broken).0
