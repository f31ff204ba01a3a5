-- Laws of a width: that a version has one, and which one the version of bytes picks. Assumes nothing.
use mathlib.Core.Path.{◌≡◌, refl}
use mathlib.Core.Bool.{Bool, true, false, cond}
use mathlib.Core.List.{List}
use Prim.Native.Nat.{ℕ, ◌≤◌}
use native.Mathlib.Omega.{arith}
use lib.Dec.{eqb}
use borrow.Author.Tests.{eq-eqb, ne_eqb}
use Rattle.frame.specs.declared.version.Version.{Version}
use Rattle.frame.specs.declared.version.Version.TheVariants.{One, Two}
use Rattle.frame.specs.Frame.{narrow, wide, version_of, Width, width_of}
use Rattle.frame.specs.Reading.{version_in, width_in}

-- a version has such a width
pub width_of_is : (version : Version) → Width (width_of version)
width_of_is One = (omega arith, omega arith, refl)
width_of_is Two = (omega arith, omega arith, refl)

module _ (bs : List ℕ) where
  pub width_in_wide : version_in bs ≡ version_of wide → width_in bs ≡ wide
  width_in_wide e = rw (eq-eqb (version_in bs) (version_of wide) e)

  pub width_in_narrow : (version_in bs ≡ version_of wide → ⊥) → width_in bs ≡ narrow
  width_in_narrow h = rw (ne_eqb (version_in bs) (version_of wide) h)

  pub width_in_le : width_in bs ≤ wide
  width_in_le = go (eqb (version_in bs) (version_of wide))
    where
      go : (b : Bool) → cond b wide narrow ≤ wide
      go true = omega arith
      go false = omega arith
