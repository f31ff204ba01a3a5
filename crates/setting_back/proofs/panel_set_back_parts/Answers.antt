-- `setting_back::panel_set_back_parts` meets its contract: its only check is that of 26, and the time is the lower of the two. Assumes nothing.
use mathlib.Core.Path.{◌∙◌}
use Rattle.lent.specs.Record.{parts}
use Rattle.setting_back.proofs.SettingBack.{set_back_refused, set_back_done}
use Rattle.setting_back.proofs.panel_set_back_parts.Goals as goal

pub returns-in-Ok : goal.returns-in-Ok
returns-in-Ok c =
    let a = c.args in
    let (whole, lower) = c.in-Ok.ensures in
    set_back_done (parts a.own a.time.now a.high a.count a.marks.now a.barrier.now a.slots.now a.floor) a.reading whole c.in-Ok.lower lower

pub returns-in-Err : goal.returns-in-Err
returns-in-Err c =
    let a = c.args in
    let (broken, number) = c.in-Err.ensures in
    rw (c.number.ensures ∙ number)
    (set_back_refused (parts a.own a.time.now a.high a.count a.marks.now a.barrier.now a.slots.now a.floor) a.reading broken)
