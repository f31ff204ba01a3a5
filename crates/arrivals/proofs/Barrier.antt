-- The barrier after messages were handed: it goes by which they are and not by their order, where none stands behind one that names it. Assumes
-- nothing.
use Prim.Native.Nat.{ℕ, ◌≤◌, ◌<◌, max}
use native.Mathlib.Decide.{ℕ_discrete, dec_lt}
use native.Mathlib.Omega.{arith}
use mathlib.Core.Path.{◌≡◌, refl, sym, ap, ◌∙◌, subst, subst⁻¹}
use mathlib.Core.Logic.{◌⊎◌, inl, inr, ◌≢◌, by_cases}
use mathlib.Core.Bool.{false}
use mathlib.Core.List.Memᴰ
use mathlib.Core.List.Memᴰ.{head as first}
use mathlib.Core.List.Memᴰ.{tail as later}
use mathlib.Core.List.{List, [], ◌∷◌, map}
use lib.ListN.{length, get_or}
use lib.Dec.{eqb}
use borrow.Author.Tests.{eq-eqb, ne_eqb}
use Rattle.frame.specs.Message.{Message}
use Rattle.rules.specs.Panel.{name_of, Make, Panel}
use Rattle.rules.specs.Handing.{raise, barrier_for, hand}
use Rattle.rules.specs.Lists.{◌is_in◌}
use Rattle.rules.specs.Lapsing.{mark_in}
use Rattle.rules.proofs.Floor.{mark_in_ge}
use Rattle.rules.proofs.Raise.{length-raise, raise_same, raise_other}
use Rattle.rules.proofs.Shortened.{length-barrier_for}
use Rattle.arrivals.proofs.HandAll.{hand_all}
use Rattle.arrivals.proofs.Removing.{Removes, removes_not, LeftOf, barrier_for-left, left_le, top_of, largest-of}

-- ---- the barrier

-- the entry for panel k is the largest, or was removed by one of the messages
abbrev pub Exact : Make → List ℕ → List Message → List ℕ → ℕ → Type 0
Exact make barrier ms b k =
    ((get_or b k 0 ≡ top_of barrier ms k) × ((w : Message) → w is_in ms → Removes make w k (top_of barrier ms k) → top_of barrier ms k ≡ 0))
    ⊎ ((get_or b k 0 ≡ 0) × (w : Message) × (w is_in ms) × Removes make w k (top_of barrier ms k))

-- messages of which none stands behind one that names it, or behind a later one of its source
abbrev pub Ordered : List Message → Type 0
Ordered [] = Unit {0}
Ordered (m ∷ ms) =
    (get_or m.entries m.source 0 < m.deadline)
    × ((w : Message) → w is_in ms → (get_or m.entries w.source 0 < w.deadline) × (w.source ≡ m.source → m.deadline < w.deadline)) × Ordered ms

-- and each is later than what the barrier has of its source
abbrev pub Above : List ℕ → List Message → Type 0
Above barrier ms = (w : Message) → w is_in ms → (w.source < 64) × (get_or barrier w.source 0 < w.deadline)

-- one is handed, and the rest behind it
module _ (p : Panel) (m : Message) (ms : List Message) (len : length p.barrier ≡ 64) (above : Above p.barrier (m ∷ ms)) (ordered : Ordered (m ∷ ms)) where
  -- the barrier without what m removes
  c : List ℕ
  c = barrier_for p.make p m

  left : (k : ℕ) → LeftOf p.make m k (get_or p.barrier k 0) (get_or c k 0)
  unfolding c
  left k = barrier_for-left p.make p m k

  left_most : (k : ℕ) → get_or c k 0 ≤ get_or p.barrier k 0
  left_most k = left_le p.make m k _ _ (left k)

  range : m.source < length c
  unfolding c
  range = omega (arith, len, (above m (first refl)).0, length-barrier_for p.make p m)

  -- ---- the rest finds a barrier of 64 entries, and each is later than what that has of its source

  length_after : length (hand p m).barrier ≡ 64
  unfolding c hand
  length_after = length-raise c m ∙ length-barrier_for p.make p m ∙ len

  above_after : Above (hand p m).barrier ms
  unfolding c hand
  above_after w i = ((above w (later i)).0, by_cases (ℕ_discrete w.source m.source) same other)
    where
      same : w.source ≡ m.source → get_or (raise c m) w.source 0 < w.deadline
      same e = rw e (omega (arith, raise_same c m range, left_most m.source, (above m (first refl)).1, (ordered.1 w i).1 e))

      other : w.source ≢ m.source → get_or (raise c m) w.source 0 < w.deadline
      other ne = omega (arith, raise_other c m w.source ne, left_most w.source, (above w (later i)).1)

  -- ---- an entry

  module _ (b : List ℕ) (k : ℕ) (X : Exact p.make (raise c m) ms b k) where
    -- the largest of all, and of the rest
    abbrev top : ℕ
    top = top_of p.barrier (m ∷ ms) k

    abbrev rest : ℕ
    rest = top_of (raise c m) ms k

    abbrev Whole : Type 0
    Whole = Exact p.make p.barrier (m ∷ ms) b k

    -- the largest stays, and m removes nothing
    carry : rest ≡ top → (Removes p.make m k top → top ≡ 0) → Whole
    carry e none = go X
      where
        every : ((w : Message) → w is_in ms → Removes p.make w k rest → rest ≡ 0) → (w : Message) → w is_in m ∷ ms → Removes p.make w k top → top ≡ 0
        every each w (first q) r = none (subst (λ x. Removes p.make x k top) q r)
        every each w (later i) r = sym e ∙ each w i (subst⁻¹ (Removes p.make w k) e r)

        go : Exact p.make (raise c m) ms b k → Whole
        go (inl (v, each)) = inl (v ∙ e, every each)
        go (inr (v, w, i, r)) = inr (v, w, later i, subst (Removes p.make w k) e r)

    -- m removes the entry, and none comes behind it
    gone : rest ≡ 0 → Removes p.make m k top → Whole
    gone e r = go X
      where
        go : Exact p.make (raise c m) ms b k → Whole
        go (inl (v, each)) = inr (v ∙ e, m, first refl, r)
        go (inr (v, _, _, _)) = inr (v, m, first refl, r)

    -- an entry of its own source
    same_source : k ≡ m.source → Whole
    unfolding mark_in
    same_source e =
        let here = eq-eqb m.source k (sym e) in
        let raised : get_or (raise c m) k 0 ≡ max (get_or c m.source 0) m.deadline = rw e (raise_same c m range) in
        carry (rw here (omega (arith, raised, left_most m.source, (above m (first refl)).1, ap (λ (n : ℕ). get_or p.barrier n 0) e)))
        (λ r. absurd (removes_not p.make m k top (rw here (omega (arith, ordered.0, ap (λ (n : ℕ). get_or m.entries n 0) e))) r))

    -- an entry of another source
    other_source : k ≢ m.source → Whole
    unfolding mark_in
    other_source ne =
        by_cases (dec_lt 0 (mark_in (map name_of ms) k)) (λ pos. later_one (largest-of ms k pos)) (λ none. none_later none (left k))
      where
        apart : eqb m.source k ≡ false
        apart = ne_eqb m.source k (λ e. ne (sym e))

        raised : get_or (raise c m) k 0 ≡ get_or c k 0
        raised = raise_other c m k ne

        later_one : (w : Message) × (w is_in ms) × (w.source ≡ k) × (w.deadline ≡ mark_in (map name_of ms) k) → Whole
        later_one (w, i, s, d) =
            carry (rw apart (omega (arith, raised, left_most k, d, (above w (later i)).1, ap (λ (n : ℕ). get_or p.barrier n 0) s)))
            (λ r. absurd (removes_not p.make m k top (rw apart (omega (arith, d, (ordered.1 w i).0, ap (λ (n : ℕ). get_or m.entries n 0) s))) r))

        none_later : ¬ (0 < mark_in (map name_of ms) k) → LeftOf p.make m k (get_or p.barrier k 0) (get_or c k 0) → Whole
        none_later none (inl (e, zero)) =
            let is : top ≡ get_or p.barrier k 0 = rw apart (omega (arith, none)) in
            carry (omega (arith, is, raised, e, none)) (λ r. is ∙ zero (subst (Removes p.make m k) is r))
        none_later none (inr (e, removes)) =
            let is : top ≡ get_or p.barrier k 0 = rw apart (omega (arith, none)) in
            gone (omega (arith, raised, e, none)) (subst⁻¹ (Removes p.make m k) is removes)

  exact_after : (b : List ℕ) (k : ℕ) → Exact p.make (hand p m).barrier ms b k → Exact p.make p.barrier (m ∷ ms) b k
  unfolding c hand
  exact_after b k X = by_cases (ℕ_discrete k m.source) (same_source b k X) (other_source b k X)

-- so it is after any number of them
pub hand_all_exact : (p : Panel) (ms : List Message) → length p.barrier ≡ 64 → Above p.barrier ms → Ordered ms
    → (k : ℕ) → Exact p.make p.barrier ms (hand_all p ms).barrier k
unfolding hand_all hand mark_in
hand_all_exact p [] len above ordered k = inl (omega arith, λ w i. elim i [ ])
hand_all_exact p (m ∷ ms) len above ordered k =
    exact_after p m ms len above ordered (hand_all (hand p m) ms).barrier k
    (hand_all_exact (hand p m) ms (length_after p m ms len above ordered) (above_after p m ms len above ordered) ordered.2 k)

-- ---- the same messages leave the same barrier

mark_in_among : (ms others : List Message) (k : ℕ) → ((w : Message) → w is_in ms → w is_in others) → mark_in (map name_of ms) k ≤ mark_in (map name_of others) k
mark_in_among ms others k among =
    by_cases (dec_lt 0 (mark_in (map name_of ms) k))
    (λ pos. let (w, i, s, d) = largest-of ms k pos in omega (arith, d, rw s at (mark_in_ge (map name_of others) (name_of w) (Memᴰ.map name_of (among w i)))))
    (λ none. omega (arith, none))

pub exact_same : (make : Make) (barrier b c : List ℕ) (ms others : List Message) (k : ℕ) → ((w : Message) → w is_in ms → w is_in others)
    → ((w : Message) → w is_in others → w is_in ms) → Exact make barrier ms b k → Exact make barrier others c k → get_or b k 0 ≡ get_or c k 0
exact_same make barrier b c ms others k there back X Y = go X Y
  where
    top : top_of barrier ms k ≡ top_of barrier others k
    top = omega (arith, mark_in_among ms others k there, mark_in_among others ms k back)

    go : Exact make barrier ms b k → Exact make barrier others c k → get_or b k 0 ≡ get_or c k 0
    go (inl (e, _)) (inl (f, _)) = e ∙ top ∙ sym f
    go (inl (e, none)) (inr (f, w, i, r)) = e ∙ none w (back w i) (subst⁻¹ (Removes make w k) top r) ∙ sym f
    go (inr (e, w, i, r)) (inl (f, none)) = e ∙ sym (f ∙ none w (there w i) (subst (Removes make w k) top r))
    go (inr (e, _, _, _)) (inr (f, _, _, _)) = e ∙ sym f
