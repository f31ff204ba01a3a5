-- Laws of `raise`, by which marks and barrier entries grow, and of 64 zeros. Assumes nothing.
use Prim.Native.Nat.{ℕ, zero, suc, ◌≤◌, ◌<◌, max}
use native.Mathlib.Nat.{max-le}
use native.Mathlib.Decide.{ℕ_discrete, dec_lt}
use native.Mathlib.Omega.{arith}
use mathlib.Core.Path.{◌≡◌, refl}
use mathlib.Core.Logic.{◌≢◌, by_cases}
use mathlib.Core.List.{List}
use lib.ListN.{length, get_or, replicate, length-set, length-replicate, get_or-eq_default}
use lib.Seq.{get_or-set_same, get_or-set_other}
use Rattle.frame.specs.Message.{Message}
use Rattle.rules.specs.Panel.{none64}
use Rattle.rules.specs.Handing.{raise}

pub length-raise : (ns : List ℕ) (m : Message) → length (raise ns m) ≡ length ns
unfolding raise
length-raise ns m = length-set ns m.source _

pub raise_same : (ns : List ℕ) (m : Message) → m.source < length ns → get_or (raise ns m) m.source 0 ≡ max (get_or ns m.source 0) m.deadline
unfolding raise
raise_same ns m lt = get_or-set_same ns m.source _ 0 lt

pub raise_other : (ns : List ℕ) (m : Message) (panel : ℕ) → panel ≢ m.source → get_or (raise ns m) panel 0 ≡ get_or ns panel 0
unfolding raise
raise_other ns m panel other = get_or-set_other ns m.source panel _ 0 other

-- none falls; past the end of the list there is none
pub raise-le : (ns : List ℕ) (m : Message) (panel : ℕ) → get_or ns panel 0 ≤ get_or (raise ns m) panel 0
raise-le ns m panel =
    by_cases (ℕ_discrete panel m.source) (λ e. rw e same) (λ other. omega (arith, raise_other ns m panel other))
  where
    same : get_or ns m.source 0 ≤ get_or (raise ns m) m.source 0
    same =
        by_cases (dec_lt m.source (length ns)) (λ lt. omega (arith, raise_same ns m lt))
        (λ past. omega (arith, get_or-eq_default ns 0 {n = m.source} (omega (arith, past))))

-- past the end of the list nothing is raised
raise_past : (ns : List ℕ) (m : Message) (panel : ℕ) → length ns ≤ panel → get_or (raise ns m) panel 0 ≡ 0
raise_past ns m panel past = get_or-eq_default (raise ns m) 0 {n = panel} (omega (arith, past, length-raise ns m))

-- of two lists the lower stays the lower
pub raise_mono : (ks ns : List ℕ) (m : Message) → length ks ≡ length ns → ((panel : ℕ) → get_or ks panel 0 ≤ get_or ns panel 0)
    → (panel : ℕ) → get_or (raise ks m) panel 0 ≤ get_or (raise ns m) panel 0
raise_mono ks ns m same le panel =
    by_cases (dec_lt panel (length ks))
    (λ lt.
    by_cases (ℕ_discrete panel m.source)
    (λ (e : panel ≡ m.source).
    let a = raise_same ks m (omega (arith, lt, e)) in
    let b = raise_same ns m (omega (arith, lt, e, same)) in
    rw (e, a, b) (max-le (omega (arith, le m.source)) (omega arith)))
    (λ other. omega (arith, le panel, raise_other ks m panel other, raise_other ns m panel other)))
    (λ past. omega (arith, raise_past ks m panel (omega (arith, past))))

-- nothing is raised above the deadline
pub raise_bound : (ns : List ℕ) (m : Message) (limit : ℕ) → ((panel : ℕ) → get_or ns panel 0 ≤ limit)
    → (panel : ℕ) → get_or (raise ns m) panel 0 ≤ max limit m.deadline
raise_bound ns m limit le panel =
    by_cases (dec_lt panel (length ns))
    (λ lt.
    by_cases (ℕ_discrete panel m.source)
    (λ (e : panel ≡ m.source). rw (e, raise_same ns m (omega (arith, lt, e))) (max-le (omega (arith, le m.source)) (omega arith)))
    (λ other. omega (arith, le panel, raise_other ns m panel other)))
    (λ past. omega (arith, raise_past ns m panel (omega (arith, past))))

-- ---- 64 zeros

zeros : (n panel : ℕ) → get_or {A = ℕ} (replicate n 0) panel 0 ≡ 0
zeros zero panel = refl
zeros (suc n) zero = refl
zeros (suc n) (suc panel) = zeros n panel

pub get_or-none64 : (panel : ℕ) → get_or none64 panel 0 ≡ 0
unfolding none64
get_or-none64 panel = zeros 64 panel

pub length-none64 : length none64 ≡ 64
unfolding none64
length-none64 = length-replicate {A = ℕ} 64 0
