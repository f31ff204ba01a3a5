-- `numbers::put_number` meets its contract: the last of the eight bytes are the number's. Assumes nothing.
use mathlib.Core.Path.{ap, ◌∙◌}
use mathlib.Core.List.{List}
use Prim.Native.Nat.{ℕ, ◌-◌}
use lib.ListN.{take, drop}
use Rattle.numbers.specs.Buffer.{over}
use Rattle.numbers.proofs.BigEndian.{last_bytes}
use Rattle.numbers.proofs.put_number.Goals as goal

pub returns : goal.returns
returns c =
    let a = c.args in
    let last = λ (bs : List ℕ). take (8 - (8 - a.width)) (drop (8 - a.width) bs) in
    c.put_part.ensures
    ∙ ap (over a.buffer.now a.at) (ap last c.to_be_bytes.ensures ∙ last_bytes a.width a.number c.requires.0 c.requires.2)
