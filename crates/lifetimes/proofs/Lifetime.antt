-- Laws of the lifetime of a send, whose deadline 24 tests. Assumes nothing.
use mathlib.Core.Path.{◌≡◌}
use Prim.Native.Nat.{ℕ, zero, suc}
use native.Mathlib.Omega.{arith}
use Rattle.rules.specs.Calls.{default_lifetime, lifetime_of}

pub lifetime_of-zero : (lifetime : ℕ) → lifetime ≡ 0 → lifetime_of lifetime ≡ default_lifetime
lifetime_of-zero lifetime e = rw e

pub lifetime_of_given : (lifetime : ℕ) → (lifetime ≡ 0 → ⊥) → lifetime_of lifetime ≡ lifetime
lifetime_of_given zero given = absurd (omega (arith, given))
lifetime_of_given (suc lifetime) given = omega arith
