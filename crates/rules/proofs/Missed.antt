-- What `has_lapsed` and `missed` say. Assumes nothing.
use Prim.Native.Nat.{ℕ, zero, suc, ◌+◌, ◌≤◌, ◌<◌, max}
use native.Mathlib.Nat.{eq-or-lt_of_le, le_of_suc-le-suc, not-suc-le-zero}
use native.Mathlib.Decide.{dec_lt}
use native.Mathlib.Omega.{arith}
use mathlib.Core.Path.{◌≡◌, refl}
use mathlib.Core.Logic.{⊎_elim, by_cases}
use mathlib.Core.Bool.{Bool, true, false, cond, ◌&&◌}
use mathlib.Core.List.{List}
use lib.ListN.{get_or}
use lib.Dec.{leb, ltb}
use borrow.Author.Tests.{ltb-true, ltb-false, lt-ltb, leb-true, leb-false}
use Rattle.frame.proofs.Conjunction.{and_both}
use Rattle.rules.specs.Panel.{has_lapsed}
use Rattle.rules.specs.Handing.{largest, missed_entry, missed}
use Rattle.rules.proofs.Booleans.{or_either, or_neither, cond_both}

-- ---- has lapsed

pub has_lapsed-true : (time floor deadline : ℕ) → has_lapsed time floor deadline ≡ true → deadline < max time (floor + 1)
unfolding has_lapsed
has_lapsed-true time floor deadline e =
    ⊎_elim (λ l. omega (arith, ltb-true deadline time l)) (λ l. omega (arith, leb-true deadline floor l))
    (or_either (ltb deadline time) (leb deadline floor) e)

pub has_lapsed-false : (time floor deadline : ℕ) → has_lapsed time floor deadline ≡ false → (time ≤ deadline) × (floor < deadline)
unfolding has_lapsed
has_lapsed-false time floor deadline e =
    let (late, above) = or_neither (ltb deadline time) (leb deadline floor) e in
    (ltb-false deadline time late, leb-false deadline floor above)

-- ---- the largest number

module _ (number : ℕ → ℕ) where
  largest-lt : (n above : ℕ) → 0 < above → ((panel : ℕ) → number panel < above) → largest n number < above
  unfolding largest
  largest-lt zero above pos each = pos
  largest-lt (suc n) above pos each = omega (arith, largest-lt n above pos each, each n)

  largest_ge : (n panel : ℕ) → panel < n → number panel ≤ largest n number
  unfolding largest
  largest_ge zero panel lt = absurd (not-suc-le-zero lt)
  largest_ge (suc n) panel lt =
      ⊎_elim (λ (q : panel ≡ n). rw q (omega arith)) (λ (l : panel < n). omega (arith, largest_ge n panel l)) (eq-or-lt_of_le (le_of_suc-le-suc lt))

  largest-some : (n : ℕ) → 0 < largest n number → (panel : ℕ) × (number panel ≡ largest n number)
  unfolding largest
  largest-some zero pos = absurd (omega (arith, pos))
  largest-some (suc n) pos =
      by_cases (dec_lt (largest n number) (number n)) (λ lt. (n, omega arith))
      (λ ge. let (panel, e) = largest-some n (omega arith) in (panel, omega arith))

-- ---- the entries missed

module _ (time floor : ℕ) (mark : ℕ → ℕ) (entries : List ℕ) where
  -- they have lapsed
  pub missed-lapsed : missed time floor mark entries < max time (floor + 1)
  unfolding missed
  missed-lapsed =
      largest-lt _ 64 (max time (floor + 1)) (omega arith)
      (λ panel.
      cond_both (λ n. n < max time (floor + 1)) (has_lapsed time floor (get_or entries panel 0) && ltb (mark panel) (get_or entries panel 0))
      (λ e. has_lapsed-true time floor (get_or entries panel 0) (and_both (has_lapsed time floor (get_or entries panel 0)) _ e).0) (λ _. omega arith))

  -- they are all lapsed entries that the marks have not reached
  pub missed_ge : (panel : ℕ) → panel < 64 → has_lapsed time floor (get_or entries panel 0) ≡ true → mark panel < get_or entries panel 0
      → get_or entries panel 0 ≤ missed time floor mark entries
  unfolding missed
  missed_ge panel lt e above =
      let ge = largest_ge (λ k. missed_entry time floor (mark k) (get_or entries k 0)) 64 panel lt in
      rw (e, lt-ltb (mark panel) (get_or entries panel 0) above) at ge

  -- where there is one, the largest is one of them
  pub missed-some : 0 < missed time floor mark entries
      → (panel : ℕ) × (get_or entries panel 0 ≡ missed time floor mark entries) × (mark panel < get_or entries panel 0)
  unfolding missed
  missed-some pos =
      let (panel, e) = largest-some _ 64 pos in
      go panel (has_lapsed time floor (get_or entries panel 0)) (ltb (mark panel) (get_or entries panel 0)) refl e
    where
      go : (panel : ℕ) (late above : Bool) → ltb (mark panel) (get_or entries panel 0) ≡ above
          → cond (late && above) (get_or entries panel 0) 0 ≡ missed time floor mark entries
          → (k : ℕ) × (get_or entries k 0 ≡ missed time floor mark entries) × (mark k < get_or entries k 0)
      go panel true true t e = (panel, e, ltb-true (mark panel) (get_or entries panel 0) t)
      go panel true false t e = absurd (omega (arith, e, pos))
      go panel false above t e = absurd (omega (arith, e, pos))

  -- what the marks have reached is not missed
  pub missed-none : ((panel : ℕ) → get_or entries panel 0 ≤ mark panel) → missed time floor mark entries ≡ 0
  missed-none reached =
      by_cases (dec_lt 0 (missed time floor mark entries))
      (λ above. let (panel, e, unreached) = missed-some above in absurd (omega (arith, reached panel)))
      (λ none. omega arith)
