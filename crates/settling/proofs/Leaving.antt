-- Laws of a place that leaves the list: the later ones move up by one. Assumes nothing.
use Prim.Native.Nat.{ℕ, zero, suc, ◌+◌, ◌-◌, ◌≤◌, ◌<◌}
use native.Mathlib.Decide.{ℕ_discrete}
use native.Mathlib.Omega.{arith}
use mathlib.Core.Path.{◌≡◌, refl, sym, ap, ◌∙◌}
use mathlib.Core.Logic.{by_cases}
use mathlib.Core.Bool.{Bool, true, false, cond}
use mathlib.Core.List.{List, [], ◌∷◌, ◌++◌}
use lib.ListN.{length, get_or, take, drop, set, length-set, length-append, length-drop, get_or-append}
use lib.Seq.{get_or-set_same, get_or-set_other, get_or-take, get_or-drop, get_or-append-add, length-take-le, ext_get_or}
use lib.Dec.{ltb}
use borrow.Author.Tests.{ltb-true, ltb-false, lt-ltb, le-ltb}
use Rattle.frame.specs.Message.{Message}
use Rattle.rules.specs.Settling.{without}
use Rattle.slots.specs.Slots.{Listed, frame_at, carried, held}

-- the place, in the list before, of what stands at place k of the list that one has left
abbrev pub from : ℕ → ℕ → ℕ
from place k = cond (ltb k place) k (k + 1)

from_before : (place k : ℕ) → k < place → from place k ≡ k
from_before place k h = rw (lt-ltb k place h)

from_behind : (place k : ℕ) → place ≤ k → from place k ≡ k + 1
from_behind place k h = rw (le-ltb k place h)

from_le : (place k : ℕ) → k ≤ from place k
from_le place k = go (ltb k place)
  where
    go : (b : Bool) → k ≤ cond b k (k + 1)
    go true = omega arith
    go false = omega arith

from-lt : (place k : ℕ) {count : ℕ} → k + 1 < count → from place k < count
from-lt place k {count} h = go (ltb k place)
  where
    go : (b : Bool) → cond b k (k + 1) < count
    go true = omega arith
    go false = omega arith

-- what stands at place k of a list without a place
get_or-without : (ws : List ℕ) (place k : ℕ) → place ≤ length ws → get_or (take place ws ++ drop (suc place) ws) k 0 ≡ get_or ws (from place k) 0
get_or-without ws place k le = go (ltb k place) refl
  where
    front : length (take place ws) ≡ place
    front = length-take-le place ws le

    go : (b : Bool) → ltb k place ≡ b → get_or (take place ws ++ drop (suc place) ws) k 0 ≡ get_or ws (cond b k (k + 1)) 0
    go true e =
        let lt = ltb-true k place e in
        get_or-append (take place ws) (drop (suc place) ws) 0 k (omega (arith, front, lt)) ∙ get_or-take place ws k 0 lt
    go false e =
        let at : k ≡ length (take place ws) + (k - place) = omega (arith, front, ltb-false k place e) in
        let next : suc place + (k - place) ≡ k + 1 = omega (arith, ltb-false k place e) in
        ap (λ (j : ℕ). get_or (take place ws ++ drop (suc place) ws) j 0) at
        ∙ get_or-append-add (take place ws) (drop (suc place) ws) (k - place) 0
        ∙ get_or-drop (suc place) ws (k - place) 0
        ∙ ap (λ (j : ℕ). get_or ws j 0) next

-- those behind a place have moved up by one, so far below i
pub record Moved (before : List ℕ) (place i : ℕ) (after : List ℕ) : Type 0 where
  pub moved : (k : ℕ) → k < i → get_or after k 0 ≡ get_or before (from place k) 0
  pub kept : (k : ℕ) → i ≤ k → get_or after k 0 ≡ get_or before k 0
  pub long : length after ≡ length before

pub moved_none : (before : List ℕ) (place : ℕ) → Moved before place place before
moved_none before place =
    record { moved = λ k h. ap (λ (j : ℕ). get_or before j 0) (sym (from_before place k h)); kept = λ k h. refl; long = refl }

pub moved_more : (before : List ℕ) (place i : ℕ) (after : List ℕ) → place ≤ i → i < length before → Moved before place i after
    → Moved before place (i + 1) (set after i (get_or after (i + 1) 0))
moved_more before place i after h lt m =
    let x = get_or after (i + 1) 0 in
    let other : (k : ℕ) → (k ≡ i → ⊥) → get_or (set after i x) k 0 ≡ get_or after k 0 = λ k n. get_or-set_other after i k x 0 n in
    let same : get_or (set after i x) i 0 ≡ get_or before (from place i) 0 =
    get_or-set_same after i x 0 (omega (arith, m.long))
    ∙ m.kept (i + 1) (omega arith)
    ∙ ap (λ (j : ℕ). get_or before j 0) (sym (from_behind place i h)) in
    record {
      moved = λ k l.
          by_cases (ℕ_discrete k i)
          (λ e. ap (λ (j : ℕ). get_or (set after i x) j 0) e ∙ same ∙ ap (λ (j : ℕ). get_or before (from place j) 0) (sym e))
          (λ n. other k n ∙ m.moved k (omega (arith, n)));
      kept = λ k l. other k (λ e. omega (arith, e)) ∙ m.kept k (omega arith);
      long = length-set after i x ∙ m.long;
    }

-- ---- the list that one has left

-- each of its places, in the list before
module _ (before : List ℕ) (count place : ℕ) (after : List ℕ) (left : ℕ) (one : left + 1 ≡ count)
    (moves : (k : ℕ) → k < left → get_or after k 0 ≡ get_or before (from place k) 0) where
  pub take_leaves : place < count → count ≤ length before → left ≤ length after
      → take left after ≡ take place (take count before) ++ drop (suc place) (take count before)
  take_leaves lt fits room =
      let ws = take count before in
      let long : length ws ≡ count = length-take-le count before fits in
      let front : length (take place ws) ≡ place = length-take-le place ws (omega arith) in
      let first : length (take left after) ≡ left = length-take-le left after room in
      ext_get_or 0 (take left after) (take place ws ++ drop (suc place) ws)
      (omega (arith, length-append (take place ws) (drop (suc place) ws), length-drop (suc place) ws))
      (λ k h.
      let below : k < left = omega arith in
      get_or-take left after k 0 below
      ∙ moves k below
      ∙ sym (get_or-take count before (from place k) 0 (from-lt place k (omega arith)))
      ∙ sym (get_or-without ws place k (omega arith)))

  pub listed_leaves : (slots : List ℕ) → Listed slots count before → Listed slots left after
  listed_leaves slots l =
      let lt : (k : ℕ) → k < left → from place k < count = λ k h. from-lt place k (omega arith) in
      record {
        few = omega (arith, l.few);
        rises = λ k h. omega (arith, moves k h, from_le place k, l.rises (from place k) (lt k h));
        below = λ k h. omega (arith, moves k h, l.below (from place k) (lt k h));
        reads = λ k h. rw (moves k h) (l.reads (from place k) (lt k h));
      }

pub held-without : (slots ws : List ℕ) (place : ℕ) → held slots (take place ws ++ drop (suc place) ws) ≡ without place (held slots ws)
unfolding held without
held-without slots [] zero = refl
held-without slots [] (suc place) = refl
held-without slots (w ∷ ws) zero = refl
held-without slots (w ∷ ws) (suc place) = ap {B = List Message} (λ ms. carried (frame_at slots w) ∷ ms) (held-without slots ws place)
