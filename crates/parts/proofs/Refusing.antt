-- Laws of `broken`, test by test. Assumes nothing.
use Rattle.std.proofs.Common.{◌≡◌, ℕ, ◌+◌, ◌<◌, ◌≤◌, arith, Bool, true, false, not, ◌&&◌, ltb, List, [], ◌∷◌, ◌++◌, length, get_or, take, sym, refl, ap, ◌∙◌, add-one, take-suc, le-ltb, lt-ltb}
use mathlib.Core.Bool.{or-true, and-true, and_assoc}
use Rattle.frame.specs.Readable.{each_below}
use Rattle.frame.proofs.Conjunction.{and_both}
use Rattle.frame.proofs.EachNumber.{each_below-lt}
use Rattle.rules.specs.Panel.{Panel}
use Rattle.rules.specs.Refusals.{broken, each_readable}
use Rattle.slots.specs.Slots.{held, first_slots}
use Rattle.slots.proofs.Held.{length-first_slots}
use Rattle.lent.specs.Record.{Parts, record_of}

module _ (p : Panel) where
  pub broken_own : 63 < p.own → broken p ≡ true
  unfolding broken
  broken_own above = simp (lt-ltb 63 p.own above)

  broken_marks : each_below (p.high + 1) p.marks ≡ false → broken p ≡ true
  unfolding broken
  broken_marks above = simp (above, or-true)

  broken_barrier : each_below (p.high + 1) p.barrier ≡ false → broken p ≡ true
  unfolding broken
  broken_barrier above = simp (above, or-true)

  pub broken_above : (each_below (p.high + 1) p.marks && each_below (p.high + 1) p.barrier) ≡ false → broken p ≡ true
  broken_above above = go (each_below (p.high + 1) p.marks) refl
    where
      go : (b : Bool) → each_below (p.high + 1) p.marks ≡ b → broken p ≡ true
      go true e = broken_barrier (rw e at above)
      go false e = broken_marks e

  pub broken_count : 32 < length p.waiting → broken p ≡ true
  unfolding broken
  broken_count above = simp (lt-ltb 32 (length p.waiting) above, or-true)

  -- what is left to the last test
  pub broken_waiting : p.own ≤ 63 → each_below (p.high + 1) p.marks ≡ true → each_below (p.high + 1) p.barrier ≡ true
      → length p.waiting ≤ 32 → broken p ≡ not (each_readable p.waiting)
  unfolding broken
  broken_waiting own marks barrier count = simp (le-ltb 63 p.own own, marks, barrier, le-ltb 32 (length p.waiting) count)

-- ---- the first numbers of a list, and one more

each_below-snoc : (limit : ℕ) (ns : List ℕ) (n : ℕ) → each_below limit (ns ++ (n ∷ [])) ≡ (each_below limit ns && ltb n limit)
unfolding each_below
each_below-snoc limit [] n = and-true (ltb n limit)
each_below-snoc limit (first ∷ ns) n =
    ap (λ (t : Bool). ltb first limit && t) (each_below-snoc limit ns n) ∙ sym (and_assoc (ltb first limit) (each_below limit ns) (ltb n limit))

pub each_below_more : (limit : ℕ) (ns : List ℕ) (i : ℕ) → i < length ns
    → each_below limit (take (i + 1) ns) ≡ (each_below limit (take i ns) && ltb (get_or ns i 0) limit)
each_below_more limit ns i l = rw (add-one, take-suc ns i 0 l) (each_below-snoc limit (take i ns) (get_or ns i 0))

-- a number that is above the limit
pub one_above : (limit : ℕ) (ns : List ℕ) (i : ℕ) → limit + 1 ≤ get_or ns i 0 → false ≡ each_below (limit + 1) ns
one_above limit ns i above = go (each_below (limit + 1) ns) refl
  where
    go : (b : Bool) → each_below (limit + 1) ns ≡ b → false ≡ b
    go true e = absurd (omega (arith, each_below-lt (limit + 1) ns (omega arith) e i))
    go false e = refl

-- past own number, marks and barrier the waiting messages decide
pub waiting_decides : (p : Parts) (within : Bool) → p.own ≤ 63 → within ≡ (each_below (p.high + 1) p.marks && each_below (p.high + 1) p.barrier)
    → within ≡ true → p.count ≤ 32 → not (each_readable (held p.slots (first_slots p.count))) ≡ broken (record_of p)
waiting_decides p within own is all few =
    let (marks, barrier) = and_both _ _ (sym is ∙ all) in
    sym (broken_waiting (record_of p) own marks barrier (omega (arith, few, length-first_slots p.slots p.count)))

-- what 26 says of a record that is read, it says of the record that is lent
pub seen_broken : {seen lent : Parts} {is_broken : Bool} → seen ≡ lent → is_broken ≡ broken (record_of seen) → is_broken ≡ broken (record_of lent)
seen_broken same is = is ∙ ap (λ (p : Parts). broken (record_of p)) same
