-- `writing::mask_of` meets its contract: the mask is that of the panels so far, from the highest down. Assumes nothing.
use Rattle.std.proofs.Common.{◌-◌, length, get_or, sym, arith}
use Rattle.writing.proofs.Entries.{bit_byte, mask_of_none, mask_of_drop, mask_of_drop_lt}
use Rattle.writing.proofs.mask_of.Goals as goal

pub loop-panel-init : goal.loop-panel-init
loop-panel-init c = let es = c.args.entries.now in sym (mask_of_none es (length es) (omega arith))

pub overflow_mul-mask : goal.overflow_mul-mask
overflow_mul-mask c = omega (arith, mask_of_drop_lt c.args.entries.now c.loop-panel.panel (omega arith) (omega arith) c.requires)

pub overflow_add-mask : goal.overflow_add-mask
overflow_add-mask c =
    let l = c.loop-panel in
    let es = c.args.entries.now in
    omega (arith, mask_of_drop_lt es l.panel (omega arith) (omega arith) c.requires, bit_byte (get_or es (l.panel - 1) 0), c.from.ensures)

pub loop-panel-preserved : goal.loop-panel-preserved
loop-panel-preserved c =
    let l = c.loop-panel in
    let es = c.args.entries.now in
    omega (arith, l.invariant, mask_of_drop es l.panel (omega arith) (omega arith), bit_byte (get_or es (l.panel - 1) 0), c.from.ensures)
