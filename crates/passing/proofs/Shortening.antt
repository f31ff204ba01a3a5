-- A walk over the entries of a frame that removes barrier entries: what is left below the panel that it has come to. Assumes nothing.
use mathlib.Core.Path.{◌≡◌, refl, sym, ap, ◌∙◌}
use mathlib.Core.Logic.{by_cases}
use mathlib.Core.List.{List}
use Prim.Native.Nat.{ℕ, ◌+◌, ◌*◌, ◌≤◌, ◌<◌}
use native.Mathlib.Decide.{ℕ_discrete, dec_lt}
use native.Mathlib.Omega.{arith}
use lib.ListN.{length, get_or, set, length-set, get_or-eq_default}
use lib.Seq.{get_or-set_same, get_or-set_other, ext_get_or}
use Rattle.numbers.specs.Numbers.{number_at}
use Rattle.frame.specs.Reading.{message_in}
use Rattle.rules.specs.Sizes.{width}
use Rattle.rules.specs.Handing.{remains, shortened}
use Rattle.rules.proofs.Shortened.{without_entry, get_or-shortened, length-shortened}
use Rattle.slots.proofs.SetBits.{next}
use Rattle.slots.proofs.Walk.{entry_of, Walk, end_none, turn_entry, turn_above, turn_skips}

module _ (bs before : List ℕ) where
  -- the barrier as it is to be
  abbrev short : List ℕ
  short = shortened before (message_in width bs).entries

  short_entry : (k entry : ℕ) → entry_of bs k ≡ entry → get_or short k 0 ≡ remains (get_or before k 0) entry
  short_entry k entry e = get_or-shortened before (message_in width bs).entries k ∙ ap (remains (get_or before k 0)) e

  short_none : (k : ℕ) → entry_of bs k ≡ 0 → get_or short k 0 ≡ get_or before k 0
  short_none k e = short_entry k 0 e ∙ without_entry (get_or before k 0)

  -- below that panel the barrier is as it is to be; from there on it is as it was
  pub record ShortBelow (barrier : List ℕ) (panel : ℕ) : Type 0 where
    pub long : length barrier ≡ length before
    pub below : (k : ℕ) → k < panel → get_or barrier k 0 ≡ get_or short k 0
    pub above : (k : ℕ) → panel ≤ k → get_or barrier k 0 ≡ get_or before k 0

  pub short_start : ShortBelow before 0
  short_start = record { long = refl; below = λ k lt. absurd (omega arith); above = λ k _. refl }

-- no bit is left
pub short_end : {bs before barrier : List ℕ} {bits passed : ℕ} (w : Walk bs bits passed) → ShortBelow bs before barrier w.panel → bits ≡ 0
    → barrier ≡ shortened before (message_in width bs).entries
short_end {bs} {before} {barrier} w s none =
    ext_get_or 0 barrier (short bs before) (s.long ∙ sym (length-shortened before (message_in width bs).entries))
    (λ k _.
    by_cases (dec_lt k w.panel) (s.below k)
    (λ past.
    let from : w.panel ≤ k = omega (arith, past) in
    s.above k from ∙ sym (short_none bs before k (end_none w none k from))))

-- a turn: what is left of the entry of the next panel whose bit is set
module _ {bs before barrier : List ℕ} {bits passed : ℕ} (w : Walk bs bits passed) (s : ShortBelow bs before barrier w.panel) (some : bits ≡ 0 → ⊥)
    (value : ℕ) where
  abbrev panel : ℕ
  panel = next bits

  -- (past the end of the list nothing is set, and 0 stands there)
  same : value ≡ remains (get_or barrier panel 0) (number_at bs (14 + width + width * passed) width) → get_or (set barrier panel value) panel 0 ≡ get_or (short bs before) panel 0
  same is =
      by_cases (dec_lt panel (length barrier))
      (λ lt.
      get_or-set_same barrier panel value 0 lt
      ∙ is
      ∙ ap (λ (b : ℕ). remains b (number_at bs (14 + width + width * passed) width)) (s.above panel (turn_above w some))
      ∙ sym (short_entry bs before panel _ (turn_entry w some)))
      (λ past.
      get_or-eq_default (set barrier panel value) 0 {n = panel} (omega (arith, past, length-set barrier panel value))
      ∙ sym
      (get_or-eq_default (short bs before) 0 {n = panel}
      (omega (arith, past, s.long, length-shortened before (message_in width bs).entries))))

  other : (k : ℕ) → k < panel → get_or barrier k 0 ≡ get_or (short bs before) k 0
  other k lt =
      by_cases (dec_lt k w.panel) (s.below k)
      (λ past.
      let from : w.panel ≤ k = omega (arith, past) in
      s.above k from ∙ sym (short_none bs before k (turn_skips w some k from lt)))

  pub short_on : value ≡ remains (get_or barrier panel 0) (number_at bs (14 + width + width * passed) width)
      → ShortBelow bs before (set barrier panel value) (panel + 1)
  short_on is =
      record {
        long = length-set barrier panel value ∙ s.long;
        below = λ k below.
            by_cases (ℕ_discrete k panel)
            (λ e. ap (λ (j : ℕ). get_or (set barrier panel value) j 0) e ∙ same is ∙ ap (λ (j : ℕ). get_or (short bs before) j 0) (sym e))
            (λ n. get_or-set_other barrier panel k value 0 n ∙ other k (omega (arith, below, n)));
        above = λ k from.
            get_or-set_other barrier panel k value 0 (λ e. omega (arith, e, from))
            ∙ s.above k (omega (arith, from, turn_above w some));
      }
