-- `slots::Readable::in_slot` meets its contract. Assumes nothing.
use Rattle.slots.proofs.Framed.{reads_fits}
use Rattle.slots.proofs.readable.Readable.in_slot.Goals as goal

pub kept_frame-frame-requires : goal.kept_frame-frame-requires
kept_frame-frame-requires c = (c.requires.0, c.requires.1, reads_fits _ _ c.requires.2)
