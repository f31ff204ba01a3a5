-- A walk over the entries of a frame that raises the floor to those that were missed. Assumes nothing.
use mathlib.Core.Path.{◌≡◌, refl, sym, ap, ◌∙◌}
use mathlib.Core.Bool.{Bool, true, false, cond, ◌&&◌}
use mathlib.Core.List.{List}
use Prim.Native.Nat.{ℕ, zero, suc, ◌+◌, ◌-◌, ◌*◌, ◌≤◌, ◌<◌, max}
use native.Mathlib.Nat.{add-zero}
use native.Mathlib.Numerals.{add-one}
use native.Mathlib.Omega.{arith}
use borrow.Author.Tests.{lt-ltb, le-ltb}
use lib.ListN.{get_or}
use lib.Dec.{ltb}
use Rattle.numbers.specs.Numbers.{number_at}
use Rattle.frame.specs.Reading.{message_in}
use Rattle.rules.specs.Sizes.{width}
use Rattle.rules.specs.Panel.{has_lapsed}
use Rattle.rules.specs.Handing.{largest, missed_entry, missed}
use Rattle.rules.proofs.Missed.{has_lapsed-true, has_lapsed-false}
use Rattle.slots.proofs.SetBits.{next}
use Rattle.slots.proofs.Walk.{entry_of, Walk, end_none, turn_entry, turn_above, turn_skips}

-- no entry, which is 0, is ever missed
missed-none : (time floor mark : ℕ) → missed_entry time floor mark 0 ≡ 0
missed-none time floor mark = go (has_lapsed time floor 0 && ltb mark 0)
  where
    go : (b : Bool) → cond {A = ℕ} b 0 0 ≡ 0
    go true = refl
    go false = refl

-- ---- one entry, by the time alone

module _ (time mark entry : ℕ) where
  -- the mark has reached it
  pub entry_reached : entry ≤ mark → 0 ≡ missed_entry time 0 mark entry
  entry_reached le = rw (le-ltb mark entry le) (go (has_lapsed time 0 entry))
    where
      go : (late : Bool) → 0 ≡ cond {A = ℕ} (late && false) entry 0
      go true = refl
      go false = refl

  -- it has not lapsed
  pub entry_alive : mark < entry → time ≤ entry → 0 ≡ missed_entry time 0 mark entry
  entry_alive above due = go (has_lapsed time 0 entry) refl (ltb mark entry)
    where
      go : (late : Bool) → has_lapsed time 0 entry ≡ late → (b : Bool) → 0 ≡ cond {A = ℕ} (late && b) entry 0
      go true e b = absurd (omega (arith, has_lapsed-true time 0 entry e))
      go false e b = refl

  -- it was missed
  pub entry_missed : mark < entry → entry < time → entry ≡ missed_entry time 0 mark entry
  unfolding has_lapsed
  entry_missed unreached late = rw (lt-ltb mark entry unreached, lt-ltb entry time late)

-- ---- one after another

-- By which floor an entry has lapsed, the first one or one that has risen, makes no difference to the one that is risen.
missed_risen : (time floor risen mark entry : ℕ) → floor ≤ risen → max risen (missed_entry time risen mark entry) ≡ max risen (missed_entry time floor mark entry)
missed_risen time floor risen mark entry le = go (has_lapsed time risen entry) refl (has_lapsed time floor entry) refl (ltb mark entry)
  where
    go : (late : Bool) → has_lapsed time risen entry ≡ late → (before : Bool) → has_lapsed time floor entry ≡ before → (above : Bool)
        → max risen (cond (late && above) entry 0) ≡ max risen (cond (before && above) entry 0)
    go true e true f above = refl
    go true e false f true = let (t, above) = has_lapsed-false time floor entry f in omega (arith, has_lapsed-true time risen entry e)
    go true e false f false = refl
    go false e true f true = let (t, above) = has_lapsed-false time risen entry e in omega (arith, has_lapsed-true time floor entry f)
    go false e true f false = refl
    go false e false f above = refl

module _ (bs marks : List ℕ) (time floor : ℕ) where
  -- the entry of a panel, if it was missed
  abbrev missed_of : ℕ → ℕ
  missed_of panel = missed_entry time floor (get_or marks panel 0) (entry_of bs panel)

  -- the floor, risen by the entries of the panels below one
  abbrev pub risen_below : ℕ → ℕ
  risen_below panel = max floor (largest panel missed_of)

  -- panels without an entry are passed by
  largest_skip : (panel n : ℕ) → ((k : ℕ) → panel ≤ k → k < panel + n → entry_of bs k ≡ 0) → largest (panel + n) missed_of ≡ largest panel missed_of
  unfolding largest
  largest_skip panel zero none = rw add-zero
  largest_skip panel (suc n) none =
      let here : missed_of (panel + n) ≡ 0 = rw (none (panel + n) (omega arith) (omega arith)) (missed-none time floor (get_or marks (panel + n) 0)) in
      let last : panel + suc n ≡ suc (panel + n) = omega arith in
      ap (λ (k : ℕ). largest k missed_of) last
      ∙ omega (arith, here, largest_skip panel n (λ k above lt. none k above (omega arith)))

  pub risen_start : floor ≡ risen_below 0
  unfolding largest
  risen_start = omega arith

  -- no bit is left
  pub risen_end : {bits passed risen : ℕ} (w : Walk bs bits passed) → bits ≡ 0 → risen ≡ risen_below w.panel
      → risen ≡ max floor (missed time floor (λ panel. get_or marks panel 0) (message_in width bs).entries)
  unfolding missed
  risen_end w none e =
      let panel = w.panel in
      let all : 64 ≡ panel + (64 - panel) = omega (arith, w.few) in
      let skip = ap (λ (n : ℕ). largest n missed_of) all ∙ largest_skip panel (64 - panel) (λ k above lt. end_none w none k above) in
      e ∙ ap (max floor) (sym skip)

  -- a turn: the entry of the next panel whose bit is set
  pub risen_on : {bits passed risen : ℕ} (w : Walk bs bits passed) (some : bits ≡ 0 → ⊥) (next-risen : ℕ) → risen ≡ risen_below w.panel
      → next-risen ≡ max risen (missed_entry time 0 (get_or marks (next bits) 0) (number_at bs (14 + width + width * passed) width)) → next-risen ≡ risen_below (next bits + 1)
  unfolding largest
  risen_on {bits} {passed} {risen} w some next-risen e is =
      let panel = w.panel in
      let reached : next bits ≡ panel + (next bits - panel) = omega (arith, turn_above w some) in
      let skip : largest (next bits) missed_of ≡ largest panel missed_of =
      ap (λ (n : ℕ). largest n missed_of) reached ∙ largest_skip panel (next bits - panel) (λ k above lt. turn_skips w some k above (omega (arith, reached))) in
      let here : max risen (missed_entry time 0 (get_or marks (next bits) 0) (number_at bs (14 + width + width * passed) width)) ≡ max risen (missed_of (next bits)) =
      sym (missed_risen time 0 risen (get_or marks (next bits) 0) (number_at bs (14 + width + width * passed) width) (omega arith))
      ∙ missed_risen time floor risen (get_or marks (next bits) 0) (number_at bs (14 + width + width * passed) width) (omega (arith, e))
      ∙ ap (λ (entry : ℕ). max risen (missed_entry time floor (get_or marks (next bits) 0) entry)) (sym (turn_entry w some)) in
      is ∙ here ∙ rw add-one (omega (arith, e, skip))
