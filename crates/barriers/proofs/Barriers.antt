-- Shorter barriers: after every list of calls, a panel of either make beside one of the old make. Assumes nothing.
use Prim.Native.Nat.{ℕ}
use native.Mathlib.Decide.{dec_lt}
use native.Mathlib.Omega.{arith}
use mathlib.Core.Path.{◌≡◌, refl, ap, ◌∙◌, subst⁻¹}
use mathlib.Core.Logic.{inl, inr, by_cases}
use mathlib.Core.Bool.{Bool, true, false, cond}
use mathlib.Core.List.{List, [], ◌∷◌}
use lib.ListN.{get_or}
use lib.Dec.{eqb}
use Rattle.rules.specs.Panel.{Make, old_make, new_make, Panel, none64, fresh, of_make}
use Rattle.rules.specs.Results.{Call, Result, defined}
use Rattle.rules.specs.Lists.{Made, record_at, given_to, log_at, sends, Lawful, AllPromised}
use Rattle.barriers.specs.Barriers.{as_old, with_barrier, NoLonger, StaysOrGoes}
use Rattle.rules.proofs.Raise.{get_or-none64, length-none64}
use Rattle.rules.proofs.Sound.{SummarySound}
use Rattle.rules.proofs.Reached.{list_sound}
use Rattle.barriers.proofs.BesideOld.{Beside}
use Rattle.barriers.proofs.BesideCalls.{BesideResult, defined_beside}

-- ---- after every list

-- a record of a list, and that of the old make after the same calls
record BesideAt (old new : Panel) : Type 0 where
  make : Make
  barrier : List ℕ
  alike : new ≡ with_barrier old make barrier
  beside : Beside (of_make old_make old) barrier

beside_of_make : (p : Panel) (b : List ℕ) → Beside p b → Beside (of_make old_make p) b
beside_of_make p b B =
    record { old = refl; at_most = B.at_most; below_mark = B.below_mark; below_high = B.below_high; beside_64 = B.beside_64; barrier_64 = B.barrier_64; marks_64 = B.marks_64 }

beside_fresh : (panel : ℕ) → BesideAt (fresh panel) (fresh panel)
unfolding fresh
beside_fresh panel =
    record {
      make = new_make;
      barrier = none64;
      alike = refl;
      beside =
          record {
            old = refl;
            at_most = λ k. omega arith;
            below_mark = λ k. omega arith;
            below_high = λ k. omega (arith, get_or-none64 k);
            beside_64 = length-none64;
            barrier_64 = length-none64;
            marks_64 = length-none64;
          };
    }

-- a call at both
beside_call : (old new : Panel) → BesideAt old new → (make : Make) (call : Call)
    → BesideAt (defined (of_make old_make old) call).panel (defined (of_make make new) call).panel
beside_call old new A make call =
    let R = defined_beside (of_make old_make old) make A.barrier A.beside call in
    record {
      make = make;
      barrier = R.barrier;
      alike = ap (λ (p : Panel). (defined (of_make make p) call).panel) A.alike ∙ R.panel;
      beside = beside_of_make (defined (of_make old_make old) call).panel R.barrier R.beside;
    }

beside_list : (list : List Made) → AllPromised list → (panel : ℕ) → BesideAt (record_at panel (as_old list)) (record_at panel list)
unfolding record_at
beside_list [] promised panel = beside_fresh panel
beside_list (last ∷ earlier) (promise, promised) panel =
    go (eqb panel last.at) (beside_list earlier promised panel) (beside_list earlier promised last.at)
  where
    there : Panel
    there = (defined (given_to last.at old_make (as_old earlier)) last.call).panel

    go : (on : Bool) → BesideAt (record_at panel (as_old earlier)) (record_at panel earlier)
        → BesideAt (record_at last.at (as_old earlier)) (record_at last.at earlier)
        → BesideAt (cond on there (record_at panel (as_old earlier))) (cond on last.result.panel (record_at panel earlier))
    go true here at = rw (ap (λ (r : Result). r.panel) promise) (beside_call _ _ at last.make last.call)
    go false here at = here

-- After every list of calls, whatever frames they are given.
pub no_longer : (list : List Made) → AllPromised list → (panel : ℕ) (make : Make) → NoLonger (given_to panel old_make (as_old list)) (given_to panel make list)
no_longer list promised panel make =
    let A = beside_list list promised panel in
    let old = given_to panel old_make (as_old list) in
    let R : (call : Call) → BesideResult make (defined old call) (defined (with_barrier old make A.barrier) call) =
    defined_beside old make A.barrier A.beside in
    subst⁻¹ (NoLonger old) (ap (of_make make) A.alike)
    (record {
      alike = refl;
      at_most = A.beside.at_most;
      number = λ call. (R call).number;
      count = λ call. (R call).count;
      output = λ call. (R call).output;
      frame = λ call. (R call).frame;
    })

-- After every list of demand 3: an entry is the mark, and that of the old rule lies between.
pub stays_or_goes : (list : List Made) → Lawful list → AllPromised list → (panel : ℕ) → StaysOrGoes (record_at panel (as_old list)) (record_at panel list)
stays_or_goes list lawful promised panel k =
    by_cases (dec_lt 0 (get_or (record_at panel list).barrier k 0))
    (λ above. inl (omega (arith, K.barrier_mark k above, A.beside.at_most k, A.beside.below_mark k, barrier, marks))) (λ none. inr (omega arith))
  where
    A : BesideAt (record_at panel (as_old list)) (record_at panel list)
    A = beside_list list promised panel

    K : SummarySound (sends list) (log_at panel list) (record_at panel list).marks (record_at panel list).barrier (record_at panel list).high
    K = ((list_sound list lawful promised).sites panel).sound.summary

    barrier : get_or (record_at panel list).barrier k 0 ≡ get_or A.barrier k 0
    barrier = ap (λ (p : Panel). get_or p.barrier k 0) A.alike

    marks : get_or (record_at panel list).marks k 0 ≡ get_or (record_at panel (as_old list)).marks k 0
    marks = ap (λ (p : Panel). get_or p.marks k 0) A.alike
