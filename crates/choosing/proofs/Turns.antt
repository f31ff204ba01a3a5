-- A walk over the entries of a frame that tests each, and counts them. Assumes nothing.
use mathlib.Core.Path.{◌≡◌, refl, sym, ap, ◌∙◌}
use mathlib.Core.Bool.{Bool, true, false}
use mathlib.Core.List.{List, [], ◌∷◌}
use Prim.Native.Nat.{ℕ, zero, suc, ◌+◌, ◌-◌, ◌*◌, ◌^◌, ◌≤◌, ◌<◌}
use native.Mathlib.Nat.{add-zero}
use native.Mathlib.Numerals.{add-one}
use native.Mathlib.Omega.{arith}
use lib.ListN.{length, get_or}
use lib.Count.{ones_in}
use lib.Bits.{bit_and}
use borrow.Author.Tests.{le-leb}
use Rattle.numbers.specs.Numbers.{number_at}
use Rattle.frame.specs.Reading.{mask_in, message_in}
use Rattle.frame.proofs.Passed.{zero_passed, mask_of_passed}
use Rattle.rules.specs.Sizes.{width}
use Rattle.rules.specs.Panel.{met, lapsed, each_panel, ready}
use Rattle.visits.specs.Visiting.{visits, ones_of}
use Rattle.rules.proofs.Ready.{each_panel-true}
use Rattle.visits.proofs.Visiting.{visits_stop, visits_counted}
use Rattle.slots.specs.Slots.{Reads}
use Rattle.slots.proofs.SetBits.{next}
use Rattle.slots.proofs.Walk.{entry_of, length_entries, Walk, walk_start, end_none, end_passed, turn_lt, turn_room, turn_passed, turn_entry, turn_above, turn_skips, walk_on}
use Rattle.choosing.specs.Choice.{asking}

-- an entry beside the mark of its panel
abbrev pub met_by : ℕ → ℕ → ℕ → ℕ → Bool
met_by mark time floor entry = met (asking (mark ∷ []) time floor) 0 entry

module _ (bs marks : List ℕ) (time floor : ℕ) where
  -- whether the entry of one panel is met
  abbrev met_at : ℕ → Bool
  met_at panel = met (asking marks time floor) panel (entry_of bs panel)

  met_at_entry : (panel entry : ℕ) → entry_of bs panel ≡ entry → met_at panel ≡ met_by (get_or marks panel 0) time floor entry
  unfolding met lapsed
  met_at_entry panel entry e = rw e

  -- panels without an entry, which is 0 and met, are passed by
  met_at_skip : (panel n : ℕ) → ((k : ℕ) → panel ≤ k → k < panel + n → entry_of bs k ≡ 0) → each_panel panel met_at ≡ true
      → each_panel (panel + n) met_at ≡ true
  unfolding each_panel met
  met_at_skip panel zero none e = rw add-zero e
  met_at_skip panel (suc n) none e =
      let here : met_at panel ≡ true = rw (none panel (omega arith) (omega arith), le-leb 0 (get_or marks panel 0) (omega arith)) in
      let same : panel + suc n ≡ suc panel + n = omega arith in
      ap (λ (k : ℕ). each_panel k met_at) same ∙ met_at_skip (suc panel) n (λ k above lt. none k (omega arith) (omega arith)) (rw (e, here))

  -- one entry that is not met
  ready_unmet : (panel : ℕ) → panel < 64 → met_at panel ≡ false → ready (asking marks time floor) (message_in width bs) ≡ false
  unfolding ready
  ready_unmet panel below f = go (each_panel 64 met_at) refl
    where
      go : (b : Bool) → each_panel 64 met_at ≡ b → b ≡ false
      go true e = sym (each_panel-true 64 met_at e panel below) ∙ f
      go false e = refl

-- the ones of the message's mask
mask_ones : (bs : List ℕ) → Reads bs → mask_in width bs < 2 ^ 64 → ones_of (message_in width bs) ≡ ones_in 64 (mask_in width bs)
mask_ones bs reads fits = ap (ones_in 64) (mask_of_passed width bs (zero_passed width bs reads) fits)

-- ---- the loop

-- The entries of the panels below some panel are met, and were visited.
pub record MetBelow (bs marks : List ℕ) (time floor bits visited : ℕ) : Type 0 where
  pub walk : Walk bs bits visited
  pub all_met : each_panel walk.panel (met_at bs marks time floor) ≡ true

module _ (bs marks : List ℕ) (time floor : ℕ) where
  pub met_start : mask_in width bs < 2 ^ 64 → MetBelow bs marks time floor (mask_in width bs) 0
  unfolding each_panel
  met_start fits = record { walk = walk_start bs fits; all_met = refl }

-- in a turn the entry stands in the frame
pub met_room : {bs marks : List ℕ} {time floor bits visited : ℕ} → MetBelow bs marks time floor bits visited → (bits ≡ 0 → ⊥) → Reads bs
    → 14 + width + width * visited + width ≤ length bs
met_room m some reads = turn_room m.walk some reads

-- no bit is left
module _ (bs marks : List ℕ) (time floor bits visited : ℕ) (m : MetBelow bs marks time floor bits visited) (none : bits ≡ 0) where
  pub end_ready : ready (asking marks time floor) (message_in width bs) ≡ true
  unfolding ready
  end_ready =
      let panel = m.walk.panel in
      let all : 64 ≡ panel + (64 - panel) = omega (arith, m.walk.few) in
      ap (λ (n : ℕ). each_panel n (met_at bs marks time floor)) all
      ∙ met_at_skip bs marks time floor panel (64 - panel) (λ k above lt. end_none m.walk none k above) m.all_met

  -- all were visited
  pub end_visits : Reads bs → visited ≡ visits (asking marks time floor) (message_in width bs)
  end_visits reads =
      omega (arith, end_passed m.walk none, mask_ones bs reads m.walk.fits, (visits_counted (asking marks time floor) (message_in width bs) (length_entries bs)).all_met end_ready)

-- a turn, to the next panel whose bit is set
module _ (bs marks : List ℕ) (time floor bits visited : ℕ) (m : MetBelow bs marks time floor bits visited) (some : bits ≡ 0 → ⊥) where
  abbrev pub met_now : Bool
  met_now = met_by (get_or marks (next bits) 0) time floor (number_at bs (14 + width + width * visited) width)

  turn_met : met_at bs marks time floor (next bits) ≡ met_now
  turn_met = met_at_entry bs marks time floor (next bits) (number_at bs (14 + width + width * visited) width) (turn_entry m.walk some)

  -- the entries of the panels before it are met
  all_before : each_panel (next bits) (met_at bs marks time floor) ≡ true
  all_before =
      let panel = m.walk.panel in
      let reached : next bits ≡ panel + (next bits - panel) = omega (arith, turn_above m.walk some) in
      ap (λ (n : ℕ). each_panel n (met_at bs marks time floor)) reached
      ∙ met_at_skip bs marks time floor panel (next bits - panel) (λ k above lt. turn_skips m.walk some k above (omega (arith, reached))) m.all_met

  -- it is not met: the test stops, and has visited it
  pub stop_ready : met_now ≡ false → ready (asking marks time floor) (message_in width bs) ≡ false
  stop_ready f = ready_unmet bs marks time floor (next bits) (turn_lt m.walk some) (turn_met ∙ f)

  pub stop_visits : Reads bs → met_now ≡ false → visited + 1 ≡ visits (asking marks time floor) (message_in width bs)
  stop_visits reads f =
      let stop = visits_stop (asking marks time floor) (message_in width bs) (next bits) all_before (turn_met ∙ f) in
      omega (arith, turn_passed m.walk some, ap (ones_in (next bits)) (mask_of_passed width bs (zero_passed width bs reads) m.walk.fits), stop)

  -- it is met: the test goes on
  pub turn_on : met_now ≡ true → MetBelow bs marks time floor (bit_and bits (bits - 1)) (visited + 1)
  unfolding each_panel
  turn_on t = record { walk = walk_on m.walk some; all_met = rw (add-one, all_before, turn_met) t }
