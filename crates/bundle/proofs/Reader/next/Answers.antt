-- `bundle::Reader::next` meets its contract: the frame found lies within the bundle. Assumes nothing.
use Rattle.bundle.proofs.Steps.{frame_within}
use Rattle.bundle.proofs.Reader.next.Goals as goal

pub cut-requires : goal.cut-requires
cut-requires c = frame_within c.args.self.now.bundle.now c.args.self.now.place _ _ _ c.in-Frame.ensures
