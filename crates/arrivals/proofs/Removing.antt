-- What a message removes from a barrier as it is handed, and the largest deadline of messages of one source. Assumes nothing.
use Prim.Native.Nat.{ℕ, ◌≤◌, ◌<◌, max}
use native.Mathlib.Decide.{dec_lt}
use native.Mathlib.Omega.{arith}
use mathlib.Core.Path.{◌≡◌, refl, subst⁻¹}
use mathlib.Core.Logic.{◌⊎◌, inl, inr, by_cases}
use mathlib.Core.Bool.{Bool, true, false, cond}
use mathlib.Core.List.Memᴰ.{head as first}
use mathlib.Core.List.Memᴰ.{tail as later}
use mathlib.Core.List.{List, [], ◌∷◌, map}
use lib.ListN.{get_or}
use lib.Dec.{leb, eqb}
use borrow.Author.Tests.{leb-true, leb-false, eqb-true}
use Rattle.frame.specs.Message.{Message}
use Rattle.rules.specs.Panel.{name_of, Make, old_make, new_make, Panel}
use Rattle.rules.specs.Handing.{barrier_for}
use Rattle.rules.specs.Lists.{◌is_in◌}
use Rattle.rules.specs.Lapsing.{mark_in}
use Rattle.rules.proofs.Booleans.{cond_both}
use Rattle.rules.proofs.Shortened.{get_or-shortened}

-- ---- what a message removes

-- an entry for panel k is removed as w is handed: at a panel of the new make, where it is at most the entry of w
abbrev pub Removes : Make → Message → ℕ → ℕ → Type 0
Removes old_make w k entry = ⊥
Removes new_make w k entry = entry ≤ get_or w.entries k 0

pub removes_not : (make : Make) (w : Message) (k entry : ℕ) → get_or w.entries k 0 < entry → ¬ Removes make w k entry
removes_not old_make w k entry lt r = r
removes_not new_make w k entry lt r = omega (arith, r)

-- what is left of an entry
abbrev pub LeftOf : Make → Message → ℕ → ℕ → ℕ → Type 0
LeftOf make m k entry left = ((left ≡ entry) × (Removes make m k entry → entry ≡ 0)) ⊎ ((left ≡ 0) × Removes make m k entry)

pub barrier_for-left : (make : Make) (p : Panel) (m : Message) (k : ℕ) → LeftOf make m k (get_or p.barrier k 0) (get_or (barrier_for make p m) k 0)
unfolding barrier_for
barrier_for-left old_make p m k = inl (refl, λ r. absurd r)
barrier_for-left new_make p m k =
    let b = get_or p.barrier k 0 in
    let e = get_or m.entries k 0 in
    subst⁻¹ (LeftOf new_make m k b) (get_or-shortened p.barrier m.entries k)
    (cond_both (LeftOf new_make m k b) (leb b e) (λ t. inr (refl, leb-true b e t)) (λ t. inl (refl, λ r. absurd (omega (arith, leb-false b e t, r)))))

pub left_le : (make : Make) (m : Message) (k entry left : ℕ) → LeftOf make m k entry left → left ≤ entry
left_le make m k entry left (inl (e, _)) = omega arith
left_le make m k entry left (inr (e, _)) = omega arith

-- ---- the largest

-- the largest of a barrier's entry for panel k and the deadlines of messages of panel k
abbrev pub top_of : List ℕ → List Message → ℕ → ℕ
top_of barrier ms k = max (get_or barrier k 0) (mark_in (map name_of ms) k)

-- where there are such messages, the largest is the deadline of one
pub largest-of : (ms : List Message) (k : ℕ) → 0 < mark_in (map name_of ms) k → (w : Message) × (w is_in ms) × (w.source ≡ k) × (w.deadline ≡ mark_in (map name_of ms) k)
unfolding mark_in
largest-of [] k pos = absurd (omega (arith, pos))
largest-of (m ∷ ms) k pos = go (largest-of ms k) (eqb m.source k) refl pos
  where
    go : (0 < mark_in (map name_of ms) k → (w : Message) × (w is_in ms) × (w.source ≡ k) × (w.deadline ≡ mark_in (map name_of ms) k))
        → (b : Bool) → eqb m.source k ≡ b → 0 < max (cond b m.deadline 0) (mark_in (map name_of ms) k)
        → (w : Message) × (w is_in m ∷ ms) × (w.source ≡ k) × (w.deadline ≡ max (cond b m.deadline 0) (mark_in (map name_of ms) k))
    go below true e pos =
        by_cases (dec_lt m.deadline (mark_in (map name_of ms) k))
        (λ lt. let (w, i, s, d) = below (omega arith) in (w, later i, s, omega arith))
        (λ ge. (m, first refl, eqb-true m.source k e, omega arith))
    go below false e pos = let (w, i, s, d) = below (omega arith) in (w, later i, s, omega arith)
