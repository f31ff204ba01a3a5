-- What `choice` says: which message goes first. Assumes nothing.
use Prim.Native.Nat.{ℕ, zero, suc, ◌≤◌, ◌<◌}
use native.Mathlib.Decide.{ℕ_discrete}
use native.Mathlib.Nat.{eq-or-lt_of_le}
use native.Mathlib.Omega.{arith}
use mathlib.Core.Path.{◌≡◌, refl, sym, ap, ◌∙◌, subst}
use mathlib.Core.Logic.{◌⊎◌, inl, inr, ⊎_elim, by_cases}
use mathlib.Core.Bool.{Bool, true, false, cond, ◌&&◌, true≢false}
use mathlib.Core.Option.{Option, none, some, some-ne-none, none-ne-some, some-injective}
use mathlib.Core.List.Memᴰ
use mathlib.Core.List.Memᴰ.{head as first}
use mathlib.Core.List.Memᴰ.{tail as later}
use mathlib.Core.List.{List, [], ◌∷◌}
use lib.ListN.{length, get_or}
use lib.Dec.{ltb, eqb}
use borrow.Author.Tests.{ltb-true, ltb-false, eqb-true, eqb-false}
use Rattle.frame.specs.Message.{Message}
use Rattle.frame.proofs.Conjunction.{and_both}
use Rattle.rules.specs.Panel.{Name, name_of, Panel, ready}
use Rattle.rules.specs.Settling.{sooner, chosen, choice}
use Rattle.rules.specs.Lists.{◌is_in◌}
use Rattle.rules.proofs.Booleans.{and_either, or_either, or_neither}
use Rattle.rules.proofs.WaitingList.{get_or_is_in}

chosen_none : (r : Bool) (m : Message) (ms : List Message) (o : Option ℕ) → chosen r m ms o ≡ none → (r ≡ false) × (o ≡ none)
unfolding chosen
chosen_none true m ms none e = absurd (some-ne-none _ e)
chosen_none true m ms (some i) e = absurd (go (sooner (get_or ms i m) m) e)
  where
    go : (b : Bool) → cond b (some (suc i)) (some 0) ≡ none → ⊥
    go true q = some-ne-none _ q
    go false q = some-ne-none _ q
chosen_none false m ms none e = (refl, refl)
chosen_none false m ms (some i) e = absurd (some-ne-none _ e)

chosen-some : (r : Bool) (m : Message) (ms : List Message) (o : Option ℕ) (place : ℕ) → chosen r m ms o ≡ some place
    → ((place ≡ 0) × (r ≡ true)) ⊎ ((i : ℕ) × (place ≡ suc i) × (o ≡ some i))
unfolding chosen
chosen-some true m ms none place e = inl (cc, refl)
chosen-some true m ms (some j) place e = go (sooner (get_or ms j m) m) e
  where
    go : (b : Bool) → cond b (some (suc j)) (some 0) ≡ some place
        → ((place ≡ 0) × (◌≡◌ {A = Bool} true true)) ⊎ ((i : ℕ) × (place ≡ suc i) × (some j ≡ some i))
    go true q = inr (j, cc, refl)
    go false q = inl (cc, refl)
chosen-some false m ms none place e = absurd (none-ne-some _ e)
chosen-some false m ms (some j) place e = inr (j, cc, refl)

-- where nothing is chosen, nothing is ready
pub choice-none : (p : Panel) (ms : List Message) → choice p ms ≡ none → (m : Message) → m is_in ms → ready p m ≡ false
unfolding choice
choice-none p [] e m i = absurd (Memᴰ.not-nil i)
choice-none p (x ∷ ms) e m (first q) = ap (ready p) q ∙ (chosen_none (ready p x) x ms (choice p ms) e).0
choice-none p (x ∷ ms) e m (later i) = choice-none p ms (chosen_none (ready p x) x ms (choice p ms) e).1 m i

-- the one chosen is ready
pub choice-some : (p : Panel) (ms : List Message) (other : Message) (place : ℕ) → choice p ms ≡ some place
    → (place < length ms) × (ready p (get_or ms place other) ≡ true)
unfolding choice
choice-some p [] other place e = absurd (none-ne-some _ e)
choice-some p (x ∷ ms) other zero e =
    (omega arith, ⊎_elim (λ f. f.1) (λ f. absurd (omega (arith, f.1))) (chosen-some (ready p x) x ms (choice p ms) zero e))
choice-some p (x ∷ ms) other (suc place) e =
    ⊎_elim (λ f. absurd (omega (arith, f.0)))
    (λ f. let r = choice-some p ms other place (f.2 ∙ ap {B = Option ℕ} some (omega (arith, f.1))) in (omega (arith, r.0), r.1))
    (chosen-some (ready p x) x ms (choice p ms) (suc place) e)

-- ---- it is the ready one of lowest deadline, then lowest source, then earliest in the list

pub sooner-true : (a b : Message) → sooner a b ≡ true → (a.deadline < b.deadline) ⊎ ((a.deadline ≡ b.deadline) × (a.source < b.source))
unfolding sooner
sooner-true a b e =
    ⊎_elim (λ l. inl (ltb-true a.deadline b.deadline l))
    (λ l.
    let (d, s) = and_both (eqb a.deadline b.deadline) (ltb a.source b.source) l in
    inr (eqb-true a.deadline b.deadline d, ltb-true a.source b.source s))
    (or_either (ltb a.deadline b.deadline) (eqb a.deadline b.deadline && ltb a.source b.source) e)

pub sooner-false : (a b : Message) → sooner a b ≡ false → (b.deadline < a.deadline) ⊎ ((b.deadline ≡ a.deadline) × (b.source ≤ a.source))
unfolding sooner
sooner-false a b e =
    let (d, s) = or_neither (ltb a.deadline b.deadline) (eqb a.deadline b.deadline && ltb a.source b.source) e in
    let le = ltb-false a.deadline b.deadline d in
    ⊎_elim (λ n. inl (omega (arith, le, eqb-false a.deadline b.deadline n)))
    (λ n. by_cases (ℕ_discrete b.deadline a.deadline) (λ q. inr (q, ltb-false a.source b.source n)) (λ q. inl (omega (arith, le, q))))
    (and_either (eqb a.deadline b.deadline) (ltb a.source b.source) s)

-- a at place i goes before b at place j, or is the same
abbrev pub First : Name → ℕ → Name → ℕ → Type 0
First a i b j = (a.deadline < b.deadline) ⊎ ((a.deadline ≡ b.deadline) × ((a.source < b.source) ⊎ ((a.source ≡ b.source) × (i ≤ j))))

first_same : (a : Name) (i : ℕ) → First a i a i
first_same a i = inr (refl, inr (refl, omega arith))

first_suc : {a b : Name} {i j : ℕ} → First a i b j → First a (suc i) b (suc j)
first_suc (inl d) = inl d
first_suc (inr (d, inl s)) = inr (d, inl s)
first_suc (inr (d, inr (s, le))) = inr (d, inr (s, omega arith))

-- a stands ahead of the list of b and c, and b is not sooner
first_ahead : {a b c : Name} {i j : ℕ} → (a.deadline < b.deadline) ⊎ ((a.deadline ≡ b.deadline) × (a.source ≤ b.source)) → First b i c j
    → First a 0 c (suc j)
first_ahead (inl d) (inl e) = inl (omega arith)
first_ahead (inl d) (inr (e, rest)) = inl (omega arith)
first_ahead (inr (d, s)) (inl e) = inl (omega arith)
first_ahead (inr (d, s)) (inr (e, inl t)) = inr (d ∙ e, inl (omega arith))
first_ahead (inr (d, s)) (inr (e, inr (t, le))) =
    inr (d ∙ e, ⊎_elim (λ q. inr (q ∙ t, omega arith)) (λ l. inl (omega (arith, l, t))) (eq-or-lt_of_le s))

-- b, later in the list, is sooner than a
first_sooner : {a b : Name} (i : ℕ) → (b.deadline < a.deadline) ⊎ ((b.deadline ≡ a.deadline) × (b.source < a.source)) → First b i a 0
first_sooner i (inl d) = inl d
first_sooner i (inr (d, s)) = inr (d, inl s)

pub get_or_default : (ms : List Message) (a b : Message) (i : ℕ) → i < length ms → get_or ms i a ≡ get_or ms i b
get_or_default [] a b i lt = absurd (omega arith)
get_or_default (m ∷ ms) a b zero lt = refl
get_or_default (m ∷ ms) a b (suc i) lt = get_or_default ms a b i (omega arith)

-- the one at that place goes before each ready one of the list
abbrev pub FirstOfReady : Panel → List Message → Message → ℕ → Type 0
FirstOfReady p ms other place =
    (j : ℕ) → j < length ms → ready p (get_or ms j other) ≡ true → First (name_of (get_or ms place other)) place (name_of (get_or ms j other)) j

module _ (p : Panel) (m : Message) (ms : List Message) (other : Message) where
  first_alone : ((w : Message) → w is_in ms → ready p w ≡ false) → FirstOfReady p (m ∷ ms) other 0
  first_alone unready zero lt r = first_same (name_of m) 0
  first_alone unready (suc j) lt r = absurd (true≢false (sym r ∙ unready _ (get_or_is_in j ms other (omega arith))))

  first_here : (i : ℕ) → FirstOfReady p ms other i → sooner (get_or ms i other) m ≡ false → FirstOfReady p (m ∷ ms) other 0
  first_here i below e zero lt r = first_same (name_of m) 0
  first_here i below e (suc j) lt r = first_ahead (sooner-false (get_or ms i other) m e) (below j (omega arith) r)

  first_later : (i : ℕ) → FirstOfReady p ms other i → (ready p m ≡ true → sooner (get_or ms i other) m ≡ true) → FirstOfReady p (m ∷ ms) other (suc i)
  first_later i below e zero lt r = first_sooner (suc i) (sooner-true (get_or ms i other) m (e r))
  first_later i below e (suc j) lt r = first_suc (below j (omega arith) r)

-- The choice is the ready one of lowest deadline, then lowest source, then earliest in the list.
pub choice_first : (p : Panel) (ms : List Message) (other : Message) (place : ℕ) → choice p ms ≡ some place → FirstOfReady p ms other place
unfolding choice chosen
choice_first p [] other place e = absurd (none-ne-some _ e)
choice_first p (m ∷ ms) other place e = go (ready p m) refl (choice p ms) refl e (choice_first p ms other)
  where
    at : (k : ℕ) → some k ≡ some place → FirstOfReady p (m ∷ ms) other k → FirstOfReady p (m ∷ ms) other place
    at k q goes = subst (FirstOfReady p (m ∷ ms) other) (some-injective k place q) goes

    go : (b : Bool) → ready p m ≡ b → (o : Option ℕ) → choice p ms ≡ o → chosen b m ms o ≡ some place
        → ((i : ℕ) → choice p ms ≡ some i → FirstOfReady p ms other i) → FirstOfReady p (m ∷ ms) other place
    go true r none c q below = at 0 q (first_alone p m ms other (choice-none p ms c))
    go true r (some i) c q below =
        let same = get_or_default ms m other i (choice-some p ms other i c).0 in
        against (sooner (get_or ms i m) m) (ap (λ (w : Message). sooner w m) (sym same)) q
      where
        against : (b : Bool) → sooner (get_or ms i other) m ≡ b → cond b (some (suc i)) (some 0) ≡ some place → FirstOfReady p (m ∷ ms) other place
        against true s t = at (suc i) t (first_later p m ms other i (below i c) (λ _. s))
        against false s t = at 0 t (first_here p m ms other i (below i c) s)
    go false r none c q below = absurd (none-ne-some _ q)
    go false r (some i) c q below = at (suc i) q (first_later p m ms other i (below i c) (λ t. absurd (true≢false (sym t ∙ r))))
