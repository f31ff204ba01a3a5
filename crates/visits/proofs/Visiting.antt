-- The visits of the test for ready, counted: by the bits of the mask, up to a panel whose entry is not met, or all of them. Assumes nothing.
use Prim.Native.Nat.{ℕ, zero, suc, ◌+◌, ◌≤◌, ◌<◌}
use native.Mathlib.Nat.{add-zero, zero-add, not-suc-le-zero, suc-add, add-suc}
use native.Mathlib.Numerals.{one-add}
use native.Mathlib.Omega.{arith}
use mathlib.Core.Path.{◌≡◌, refl, sym, ap, ◌∙◌}
use mathlib.Core.Bool.{Bool, true, false, cond, ◌&&◌, true≢false}
use mathlib.Core.Logic.{◌≢◌}
use mathlib.Core.List.{List, [], ◌∷◌}
use lib.ListN.{length, get_or, drop}
use lib.Count.{ones_in}
use borrow.Author.Tests.{le-leb}
use Rattle.numbers.proofs.Ones.{ones_in_zero}
use Rattle.frame.specs.Message.{Message, mask_of}
use Rattle.frame.proofs.Conjunction.{and_both}
use Rattle.frame.proofs.Entries.{mask_of_mod, mask_of_div}
use Rattle.rules.specs.Panel.{Panel, met, each_panel, ready}
use Rattle.visits.specs.Visiting.{Entry, entries_from, entries_of, is_met, up_to_unmet, visited, visits, last_met, ones_of, Counted}
use Rattle.rules.proofs.Ready.{each_panel-true, each_panel-false}

-- ---- the bits of a mask, one after the other

ones_in_start : (mask : ℕ) → ones_in 0 mask ≡ 0
unfolding ones_in
ones_in_start mask = refl

-- the ones among the lowest bits, of a list without and with an entry in front
ones_in_none : (n : ℕ) (es : List ℕ) → ones_in (suc n) (mask_of (0 ∷ es)) ≡ ones_in n (mask_of es)
unfolding ones_in
ones_in_none n es = rw (mask_of_mod 0 es, mask_of_div 0 es) (zero-add (ones_in n (mask_of es)))

ones_in_one : (n e : ℕ) (es : List ℕ) → ones_in (suc n) (mask_of (suc e ∷ es)) ≡ suc (ones_in n (mask_of es))
unfolding ones_in
ones_in_one n e es = rw (mask_of_mod (suc e) es, mask_of_div (suc e) es) (one-add (ones_in n (mask_of es)))

-- ---- entries

-- the entry 0, which is none, is met
met-none : (p : Panel) (panel : ℕ) → met p panel 0 ≡ true
unfolding met
met-none p panel = rw (le-leb 0 (get_or p.marks panel 0) (omega arith))

-- the entries are as many as the ones
length_entries : (panel n : ℕ) (es : List ℕ) → length es ≤ n → length (entries_from panel es) ≡ ones_in n (mask_of es)
unfolding entries_from mask_of
length_entries panel n [] few = sym (ones_in_zero n)
length_entries panel zero (e ∷ es) few = absurd (not-suc-le-zero few)
length_entries panel (suc n) (zero ∷ es) few = length_entries (suc panel) n es (omega arith) ∙ sym (ones_in_none n es)
length_entries panel (suc n) (suc e ∷ es) few = ap suc (length_entries (suc panel) n es (omega arith)) ∙ sym (ones_in_one n e es)

-- no entries, no bits
entries_none : (panel : ℕ) (es : List ℕ) → length (entries_from panel es) ≡ 0 → mask_of es ≡ 0
unfolding entries_from mask_of
entries_none panel [] none = refl
entries_none panel (zero ∷ es) none = omega (arith, entries_none (suc panel) es none)
entries_none panel (suc e ∷ es) none = absurd (omega arith)

module _ (p : Panel) where
  -- each entry of the panels from one on is met, so many of them
  abbrev MetFrom : ℕ → List ℕ → ℕ → Type 0
  MetFrom panel es n = (i : ℕ) → i < n → met p (panel + i) (get_or es i 0) ≡ true

  met_from_head : (panel e : ℕ) (es : List ℕ) (n : ℕ) → MetFrom panel (e ∷ es) (suc n) → met p panel e ≡ true
  met_from_head panel e es n all = rw (add-zero panel) at (all 0 (omega arith))

  met_from_tail : (panel e : ℕ) (es : List ℕ) (n : ℕ) → MetFrom panel (e ∷ es) (suc n) → MetFrom (suc panel) es n
  met_from_tail panel e es n all i lt =
      let same : suc panel + i ≡ panel + suc i = omega arith in
      rw same (all (suc i) (omega arith))

  -- ---- the test stops at the first entry that is not met, and has visited it and those of the set bits below
  stop_from : (panel : ℕ) (es : List ℕ) (n : ℕ) → MetFrom panel es n → met p (panel + n) (get_or es n 0) ≡ false
      → length (up_to_unmet p (entries_from panel es)) ≡ suc (ones_in n (mask_of es))
  unfolding entries_from up_to_unmet
  stop_from panel [] n all unmet = absurd (true≢false (sym (met-none p (panel + n)) ∙ unmet))
  stop_from panel (zero ∷ es) zero all unmet = absurd (true≢false (sym (met-none p (panel + 0)) ∙ unmet))
  stop_from panel (zero ∷ es) (suc n) all unmet =
      let next : met p (suc panel + n) (get_or es n 0) ≡ false = rw (suc-add panel n, ← add-suc panel n) unmet in
      stop_from (suc panel) es n (met_from_tail panel 0 es n all) next ∙ ap suc (sym (ones_in_none n es))
  stop_from panel (suc e ∷ es) zero all unmet = rw (rw (add-zero panel) at unmet, ones_in_start (mask_of (suc e ∷ es)))
  stop_from panel (suc e ∷ es) (suc n) all unmet =
      let next : met p (suc panel + n) (get_or es n 0) ≡ false = rw (suc-add panel n, ← add-suc panel n) unmet in
      rw (met_from_head panel (suc e) es n all, ones_in_one n e es)
      (ap suc (stop_from (suc panel) es n (met_from_tail panel (suc e) es n all) next))

  -- ---- each entry of a list is met exactly where all are visited and the last is met

  abbrev each_met : List Entry → Bool
  each_met [] = true
  each_met (e ∷ es) = is_met p e && each_met es

  each_whole : (es : List Entry) → each_met es ≡ true → up_to_unmet p es ≡ es
  unfolding up_to_unmet
  each_whole [] all = refl
  each_whole (e ∷ es) all =
      let (here, rest) = and_both (is_met p e) (each_met es) all in
      rw here (ap (λ (l : List Entry). e ∷ l) (each_whole es rest))

  each_last : (es : List Entry) → each_met es ≡ true → last_met p es ≡ true
  unfolding last_met
  each_last [] all = refl
  each_last (e ∷ []) all = (and_both (is_met p e) true all).0
  each_last (e ∷ later ∷ es) all = each_last (later ∷ es) (and_both (is_met p e) (each_met (later ∷ es)) all).1

  whole_each : (es : List Entry) → up_to_unmet p es ≡ es → last_met p es ≡ true → each_met es ≡ true
  unfolding up_to_unmet last_met
  whole_each [] whole last = refl
  whole_each (e ∷ []) whole last = rw last
  whole_each (e ∷ later ∷ es) whole last = go (λ rest. whole_each (later ∷ es) rest last) (is_met p e) whole
    where
      go : (up_to_unmet p (later ∷ es) ≡ later ∷ es → each_met (later ∷ es) ≡ true)
          → (b : Bool) → e ∷ cond b (up_to_unmet p (later ∷ es)) [] ≡ e ∷ later ∷ es → (b && each_met (later ∷ es)) ≡ true
      go ih true all = ih (ap (drop 1) all)
      go ih false all = absurd (omega (arith, ap (λ (l : List Entry). length l) all))

  -- ---- those of a list with a number for each panel are met exactly where each number is

  met_from_each : (panel : ℕ) (es : List ℕ) → MetFrom panel es (length es) → each_met (entries_from panel es) ≡ true
  unfolding entries_from
  met_from_each panel [] all = refl
  met_from_each panel (zero ∷ es) all = met_from_each (suc panel) es (met_from_tail panel 0 es (length es) all)
  met_from_each panel (suc e ∷ es) all =
      rw (met_from_head panel (suc e) es (length es) all) (met_from_each (suc panel) es (met_from_tail panel (suc e) es (length es) all))

  each_met_from : (panel : ℕ) (es : List ℕ) → each_met (entries_from panel es) ≡ true → (i : ℕ) → met p (panel + i) (get_or es i 0) ≡ true
  unfolding entries_from
  each_met_from panel [] all i = met-none p (panel + i)
  each_met_from panel (zero ∷ es) all zero = met-none p (panel + 0)
  each_met_from panel (zero ∷ es) all (suc i) = rw (add-suc panel i, ← suc-add panel i) (each_met_from (suc panel) es all i)
  each_met_from panel (suc e ∷ es) all zero = rw (add-zero panel) (and_both (met p panel (suc e)) (each_met (entries_from (suc panel) es)) all).0
  each_met_from panel (suc e ∷ es) all (suc i) =
      rw (add-suc panel i, ← suc-add panel i)
      (each_met_from (suc panel) es (and_both (met p panel (suc e)) (each_met (entries_from (suc panel) es)) all).1 i)

  -- ---- how many

  visits-le : (es : List Entry) → length (up_to_unmet p es) ≤ length es
  unfolding up_to_unmet
  visits-le [] = omega arith
  visits-le (e ∷ es) = go (is_met p e) (visits-le es)
    where
      go : (b : Bool) → length (up_to_unmet p es) ≤ length es → length (e ∷ cond b (up_to_unmet p es) []) ≤ suc (length es)
      go true le = omega arith
      go false le = omega arith

  -- at least one, where there is one
  visits-some : (es : List Entry) → length es ≢ 0 → 1 ≤ length (up_to_unmet p es)
  unfolding up_to_unmet
  visits-some [] some = absurd (some refl)
  visits-some (e ∷ es) some = omega arith

-- ---- the visits of a message

-- the entries of the panels below one are met and its own is not: that one is visited, and those of the set bits below
pub visits_stop : (p : Panel) (m : Message) (panel : ℕ) → each_panel panel (λ i. met p i (get_or m.entries i 0)) ≡ true
    → met p panel (get_or m.entries panel 0) ≡ false → visits p m ≡ suc (ones_in panel (mask_of m.entries))
visits_stop p m panel below unmet =
    stop_from p 0 m.entries panel
    (λ i lt. rw (zero-add i) (each_panel-true panel (λ i. met p i (get_or m.entries i 0)) below i lt)) (rw (zero-add panel) unmet)

-- of one that has a number for each of 64 panels
module _ (p : Panel) (m : Message) (size : length m.entries ≡ 64) where
  ready_met_from : ready p m ≡ true → MetFrom p 0 m.entries (length m.entries)
  unfolding ready
  ready_met_from e i lt = rw (zero-add i) (each_panel-true 64 (λ panel. met p panel (get_or m.entries panel 0)) e i (omega (arith, size)))

  each_ready : each_met p (entries_of m) ≡ true → ready p m ≡ true
  unfolding ready
  each_ready all = go (each_panel 64 (λ panel. met p panel (get_or m.entries panel 0))) refl
    where
      go : (b : Bool) → each_panel 64 (λ panel. met p panel (get_or m.entries panel 0)) ≡ b → b ≡ true
      go true e = refl
      go false e =
          let (panel, lt, unmet) = each_panel-false 64 (λ panel. met p panel (get_or m.entries panel 0)) e in
          absurd (true≢false (sym (rw (zero-add panel) at (each_met_from p 0 m.entries all panel)) ∙ unmet))

  ready_each : ready p m ≡ true → each_met p (entries_of m) ≡ true
  ready_each e = met_from_each p 0 m.entries (ready_met_from e)

  pub visits_counted : Counted p m
  visits_counted =
      let ones : length (entries_of m) ≡ ones_of m = length_entries 0 64 m.entries (omega (arith, size)) in
      let whole : ready p m ≡ true → visited p m ≡ entries_of m = λ e. each_whole p (entries_of m) (ready_each e) in
      record {
        ready_when = (
          λ e. (whole e, rw (whole e) (each_last p (entries_of m) (ready_each e))),
          λ both. each_ready (whole_each p (entries_of m) both.0 (rw both.0 at both.1)),
        );
        at_most = omega (arith, visits-le p (entries_of m), ones);
        at_least = λ some. visits-some p (entries_of m) (λ none. some (entries_none 0 m.entries none));
        all_met = λ e. ap (λ (l : List Entry). length l) (whole e) ∙ ones;
      }
