-- How code finds whether a message has a frame: the entries, and `readable` test by test. Assumes nothing.
use mathlib.Core.Path.{◌≡◌, refl, ap}
use mathlib.Core.Bool.{Bool, true, false, ◌&&◌, and-true, and-false}
use mathlib.Core.List.{List, [], ◌∷◌}
use Prim.Native.Nat.{ℕ, ◌^◌, ◌≤◌, ◌<◌}
use native.Mathlib.Omega.{arith}
use Rattle.std.specs.List.{list_all}
use lib.Dec.{ltb, leb}
use lib.ListN.{length}
use borrow.Author.Tests.{lt-ltb, le-ltb, eq-eqb}
use Rattle.numbers.specs.Numbers.{Bytes}
use Rattle.frame.specs.Message.{Message}
use Rattle.frame.specs.Readable.{each_below, readable}
use Rattle.frame.proofs.EachNumber.{lt-each_below}

-- ---- each below a limit

pub list_all_below : (limit : ℕ) (ns : List ℕ) → list_all (λ n. ltb n limit) ns ≡ each_below limit ns
unfolding each_below
list_all_below limit [] = refl
list_all_below limit (n ∷ ns) = ap (λ (b : Bool). ltb n limit && b) (list_all_below limit ns)

-- ---- test by test

module _ (width : ℕ) (m : Message) where
  pub readable_source : 63 < m.source → readable width m ≡ false
  unfolding readable
  readable_source h = simp (le-ltb m.source 64 h)

  pub readable_entries : each_below m.deadline m.entries ≡ false → readable width m ≡ false
  unfolding readable
  readable_entries e = simp (e, and-false)

  -- the last test decides where the others hold
  pub readable_payload : m.source ≤ 63 → (m.deadline ≡ 0 → ⊥) → m.deadline < 256 ^ width → length m.entries ≡ 64
      → each_below m.deadline m.entries ≡ true → Bytes m.payload → leb (length m.payload) 32 ≡ readable width m
  unfolding readable
  readable_payload s d fits panels e b =
      simp (
        lt-ltb m.source 64 (omega arith),
        lt-ltb 0 m.deadline (omega arith),
        lt-ltb m.deadline (256 ^ width) fits,
        eq-eqb (length m.entries) 64 panels,
        e,
        lt-each_below 256 m.payload (λ i l. b i),
        and-true,
      )
