-- `settling::leave` meets its contract: the places before i have moved, those from i on have not. Assumes nothing.
use mathlib.Core.Path.{refl}
use native.Mathlib.Omega.{arith}
use Rattle.settling.proofs.leave.Goals as goal

pub returns : goal.returns
returns c =
    let (count, moved) = c.loop-i.invariant in
    (refl, record { moves = λ k h. moved.moved k (omega (arith, count)); one = omega (arith, count); long = moved.long })
