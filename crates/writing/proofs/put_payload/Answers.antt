-- `writing::put_payload` meets its contract: the payload goes behind its length. Assumes nothing.
use mathlib.Core.Path.{ap, ◌∙◌}
use mathlib.Core.List.{List}
use Prim.Native.Nat.{ℕ, ◌+◌}
use native.Mathlib.Omega.{arith}
use lib.ListN.{length, length-set}
use Rattle.numbers.specs.Numbers.{big_endian}
use Rattle.numbers.specs.Buffer.{over}
use Rattle.numbers.proofs.BigEndian.{length-big_endian}
use Rattle.numbers.proofs.Over.{over-over}
use Rattle.writing.proofs.Written.{over_byte}
use Rattle.writing.proofs.put_payload.Goals as goal

pub shape_of-buffer : goal.shape_of-buffer
shape_of-buffer c =
    let a = c.args in
    omega (arith, length-set a.buffer.now a.at (length a.payload.now))

pub returns : goal.returns
returns c =
    let start = c in
    let a = start.args in
    let size = big_endian 1 (length a.payload.now) in
    let one = length-big_endian 1 (length a.payload.now) in
    let stored = over_byte a.buffer.now a.at (length a.payload.now) (omega (arith, start.requires.1)) in
    c.put_bytes.ensures
    ∙ ap (λ (l : List ℕ). over l (a.at + 1) a.payload.now) stored
    ∙ over-over a.buffer.now a.at size (a.at + 1) a.payload.now (omega arith) (omega (arith, start.requires.1))
