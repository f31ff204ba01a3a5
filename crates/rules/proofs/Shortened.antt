-- Laws of the barrier that a message's own deadline goes into: shortened by a panel of the new make, as it is at one of the old make. Assumes
-- nothing.
use Prim.Native.Nat.{ℕ, zero, suc, ◌≤◌, ◌<◌, max}
use native.Mathlib.Decide.{ℕ_discrete}
use native.Mathlib.Omega.{arith}
use mathlib.Core.Path.{◌≡◌, refl, sym, ap, ◌∙◌}
use mathlib.Core.Logic.{◌⊎◌, inl, inr, ◌≢◌, by_cases}
use mathlib.Core.List.{List, [], ◌∷◌}
use lib.ListN.{length, get_or, replicate}
use lib.Seq.{ext_get_or}
use lib.Dec.{leb}
use borrow.Author.Tests.{leb-true, lt-leb}
use Rattle.frame.specs.Message.{Message}
use Rattle.rules.specs.Panel.{Make, old_make, new_make, Panel, none64}
use Rattle.rules.specs.Handing.{raise, remains, shortened, barrier_for, hand}
use Rattle.rules.proofs.Booleans.{cond_both}
use Rattle.rules.proofs.Raise.{length-raise, raise_same, raise_other}

-- ---- what is removed

-- each entry stays, or is removed and is at most the message's
abbrev StaysOr : ℕ → ℕ → ℕ → Type 0
StaysOr entry carried left = (left ≡ entry) ⊎ ((left ≡ 0) × (entry ≤ carried))

shortened_stays : (barrier entries : List ℕ) (k : ℕ) → StaysOr (get_or barrier k 0) (get_or entries k 0) (get_or (shortened barrier entries) k 0)
unfolding shortened
shortened_stays [] entries k = inl refl
shortened_stays (b ∷ barrier) [] k = inl refl
shortened_stays (b ∷ barrier) (entry ∷ entries) zero =
    cond_both (StaysOr b entry) (leb b entry) (λ e. inr (refl, leb-true b entry e)) (λ _. inl refl)
shortened_stays (b ∷ barrier) (entry ∷ entries) (suc k) = shortened_stays barrier entries k

pub length-shortened : (barrier entries : List ℕ) → length (shortened barrier entries) ≡ length barrier
unfolding shortened
length-shortened [] entries = refl
length-shortened (b ∷ barrier) [] = refl
length-shortened (b ∷ barrier) (entry ∷ entries) = ap suc (length-shortened barrier entries)

abbrev pub StaysOrRemoved : List ℕ → Panel → Message → ℕ → Type 0
StaysOrRemoved b p m k = StaysOr (get_or p.barrier k 0) (get_or m.entries k 0) (get_or b k 0)

pub get_or-barrier_for : (make : Make) (p : Panel) (m : Message) (k : ℕ) → StaysOrRemoved (barrier_for make p m) p m k
unfolding barrier_for
get_or-barrier_for old_make p m k = inl refl
get_or-barrier_for new_make p m k = shortened_stays p.barrier m.entries k

pub length-barrier_for : (make : Make) (p : Panel) (m : Message) → length (barrier_for make p m) ≡ length p.barrier
unfolding barrier_for
length-barrier_for old_make p m = refl
length-barrier_for new_make p m = length-shortened p.barrier m.entries

-- of an empty barrier nothing is removed
shortened-zeros : (n : ℕ) (entries : List ℕ) → shortened (replicate n 0) entries ≡ replicate n 0
unfolding shortened
shortened-zeros zero entries = refl
shortened-zeros (suc n) [] = refl
shortened-zeros (suc n) (entry ∷ entries) =
    cond_both (λ b. (b ∷ shortened (replicate n 0) entries) ≡ 0 ∷ replicate n 0) (leb 0 entry) (λ _. ap (λ l. 0 ∷ l) (shortened-zeros n entries))
    (λ _. ap (λ l. 0 ∷ l) (shortened-zeros n entries))

pub shortened-none64 : (entries : List ℕ) → shortened none64 entries ≡ none64
unfolding none64
shortened-none64 entries = shortened-zeros 64 entries

-- ---- what is left, entry by entry

-- where the message has no entry, the barrier's stays
pub without_entry : (b : ℕ) → remains b 0 ≡ b
without_entry b = cond_both (λ n. n ≡ b) (leb b 0) (λ e. omega (arith, leb-true b 0 e)) (λ _. refl)

pub get_or-shortened : (barrier entries : List ℕ) (k : ℕ)
    → get_or (shortened barrier entries) k 0 ≡ remains (get_or barrier k 0) (get_or entries k 0)
unfolding shortened
get_or-shortened [] entries k = cond_both (λ n. 0 ≡ n) (leb 0 (get_or entries k 0)) (λ _. refl) (λ _. refl)
get_or-shortened (b ∷ barrier) [] k = sym (without_entry (get_or (b ∷ barrier) k 0))
get_or-shortened (b ∷ barrier) (entry ∷ entries) zero = refl
get_or-shortened (b ∷ barrier) (entry ∷ entries) (suc k) = get_or-shortened barrier entries k

-- ---- the message's own

-- whatever entries a message carries, the barrier entry of its source is at least its deadline once it was handed
pub own_goes_in : (p : Panel) (m : Message) → m.source < length p.barrier → m.deadline ≤ get_or (hand p m).barrier m.source 0
unfolding hand
own_goes_in p m lt =
    let b = barrier_for p.make p m in
    omega (arith, raise_same b m (omega (arith, lt, length-barrier_for p.make p m)))

-- of a message whose entry for its own source is below its deadline, as in every frame, it makes no difference which comes first
pub either_first : (barrier : List ℕ) (m : Message) → get_or m.entries m.source 0 < m.deadline
    → shortened (raise barrier m) m.entries ≡ raise (shortened barrier m.entries) m
either_first barrier m below =
    ext_get_or 0 (shortened (raise barrier m) es) (raise (shortened barrier es) m)
    (length-shortened (raise barrier m) es ∙ length-raise barrier m ∙ sym (length-raise (shortened barrier es) m ∙ length-shortened barrier es))
    (λ k lt.
    get_or-shortened (raise barrier m) es k
    ∙ by_cases (ℕ_discrete k m.source)
    (λ (e : k ≡ m.source). rw e (same (omega (arith, lt, e, length-shortened (raise barrier m) es, length-raise barrier m)))) (apart k))
  where
    es : List ℕ
    es = m.entries

    apart : (k : ℕ) → k ≢ m.source → remains (get_or (raise barrier m) k 0) (get_or es k 0) ≡ get_or (raise (shortened barrier es) m) k 0
    apart k other =
        ap (λ (b : ℕ). remains b (get_or es k 0)) (raise_other barrier m k other)
        ∙ sym (raise_other (shortened barrier es) m k other ∙ get_or-shortened barrier es k)

    same : m.source < length barrier → remains (get_or (raise barrier m) m.source 0) (get_or es m.source 0) ≡ get_or (raise (shortened barrier es) m) m.source 0
    same lt =
        let b = get_or barrier m.source 0 in
        let entry = get_or es m.source 0 in
        rw (raise_same barrier m lt, raise_same (shortened barrier es) m (omega (arith, lt, length-shortened barrier es)), get_or-shortened barrier es m.source)
        (rw (lt-leb (max b m.deadline) entry (omega arith))
        (cond_both (λ n. max b m.deadline ≡ max n m.deadline) (leb b entry) (λ e. omega (arith, leb-true b entry e)) (λ _. refl)))
