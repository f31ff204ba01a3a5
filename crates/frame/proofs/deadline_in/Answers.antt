-- `frame::deadline_in` meets its contract: the high four of eight bytes are the first four. Assumes nothing.
use mathlib.Core.Path.{◌≡◌}
use mathlib.Core.List.{List}
use Prim.Native.Nat.{ℕ, ◌-◌, ◌*◌, ◌/◌, ◌^◌, ◌≤◌}
use native.Mathlib.Nat.{div-one}
use native.Mathlib.Omega.{arith}
use lib.ListN.{length}
use Rattle.numbers.specs.Numbers.{Bytes, number_at}
use Rattle.numbers.proofs.NumberAt.{number_at_add, number_at_lt}
use Rattle.frame.specs.declared.version.Version.{Version}
use Rattle.frame.specs.declared.version.Version.TheVariants.{One, Two}
use Rattle.frame.specs.Frame.{width_of}
use Rattle.frame.proofs.deadline_in.Goals as goal

module _ (bs : List ℕ) (b : Bytes bs) (room : 14 ≤ length bs) where
  high_half : number_at bs 6 8 / 4294967296 ≡ number_at bs 6 4
  high_half = omega (arith, number_at_add bs 6 4 4 (omega arith), number_at_lt bs 10 4 b (omega arith))

  shifted : (version : Version) → number_at bs 6 8 / 2 ^ (64 - 8 * width_of version) ≡ number_at bs 6 (width_of version)
  shifted One = high_half
  shifted Two = div-one (number_at bs 6 8)

pub returns : goal.returns
returns c =
    let bs = c.args.frame.now in
    rw (c.width.ensures, c.number_at.ensures.0) (shifted bs (λ i. omega (arith, c.type_inv.frame i)) c.requires c.args.version)
