-- What is shown of writing as a whole, for every width of a deadline that frames can have. Assumes nothing.
use mathlib.Core.Path.{◌≡◌, sym, ap, ap₂, ◌∙◌}
use mathlib.Core.Bool.{true}
use mathlib.Core.List.{List}
use Prim.Native.Nat.{ℕ}
use lib.Dec.{leb}
use lib.ListN.{length, take}
use borrow.Author.Tests.{leb-true}
use Rattle.numbers.proofs.Over.{take-over}
use Rattle.frame.specs.Message.{Message}
use Rattle.frame.specs.Frame.{Width, frame}
use Rattle.frame.specs.Reading.{message, reading}
use Rattle.frame.specs.Readable.{readable}
use Rattle.frame.proofs.Conjunction.{and_both}
use Rattle.frame.proofs.Theorems.{reading-frame}
use Rattle.std.specs.Prelude.{Option}
use Rattle.std.specs.Option.{unwrap_or}
use Rattle.writing.specs.Written.{can_write, written, written_length}
use Rattle.writing.proofs.Written.{written-frame}

-- The bytes of the buffer that a write answers for read back as the message.
pub reading-written : (width : ℕ) (m : Message) (buffer : List ℕ) → Width width → can_write width m buffer ≡ true
    → reading width (take (written_length width m buffer) (written width m buffer)) ≡ message m
unfolding can_write
reading-written width m buffer w e =
    let t = and_both (readable width m) (leb (length (frame width m)) (length buffer)) e in
    let f = written-frame width m buffer t.0 (leb-true (length (frame width m)) (length buffer) t.1) in
    ap₂ (λ (n : ℕ) (bs : List ℕ). reading width (take n bs)) (ap (λ (size : Option ℕ). unwrap_or size 0) (sym f.0)) (sym f.1)
    ∙ ap (reading width) (take-over buffer (frame width m))
    ∙ reading-frame width m w t.0
