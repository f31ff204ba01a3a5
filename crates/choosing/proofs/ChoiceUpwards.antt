-- The choice with one message more at the end of the list, as a loop upwards takes them in. Assumes nothing.
use mathlib.Core.Path.{◌≡◌, refl, sym, ap, ◌∙◌}
use mathlib.Core.Bool.{Bool, true, false, cond}
use mathlib.Core.Option.{Option, none, some}
use mathlib.Core.List.{List, [], ◌∷◌, ◌++◌}
use mathlib.Core.Logic.{◌⊎◌, inl, inr}
use Prim.Native.Nat.{ℕ, zero, suc, ◌<◌, ◌≤◌}
use native.Mathlib.Omega.{arith}
use borrow.Author.Tests.{lt-ltb, le-ltb, eq-eqb, ne_eqb}
use lib.ListN.{length, get_or}
use Rattle.frame.specs.Message.{Message}
use Rattle.rules.specs.Panel.{Panel, ready}
use Rattle.rules.specs.Settling.{sooner, chosen, choice}
use Rattle.rules.proofs.Choice.{sooner-true, sooner-false, choice-some, get_or_default}

-- ---- sooner is an order

true-sooner : (a b : Message) → (a.deadline < b.deadline) ⊎ ((a.deadline ≡ b.deadline) × (a.source < b.source)) → sooner a b ≡ true
unfolding sooner
true-sooner a b (inl lt) = rw (lt-ltb a.deadline b.deadline lt)
true-sooner a b (inr (e, lt)) =
    rw (le-ltb a.deadline b.deadline (omega arith), eq-eqb a.deadline b.deadline e, lt-ltb a.source b.source lt)

false-sooner : (a b : Message) → (b.deadline < a.deadline) ⊎ ((b.deadline ≡ a.deadline) × (b.source ≤ a.source)) → sooner a b ≡ false
unfolding sooner
false-sooner a b (inl lt) =
    rw (le-ltb a.deadline b.deadline (omega arith), ne_eqb a.deadline b.deadline (λ e. omega arith))
false-sooner a b (inr (e, le)) =
    rw (le-ltb a.deadline b.deadline (omega arith), eq-eqb a.deadline b.deadline (sym e), le-ltb a.source b.source le)

sooner_trans : (a b c : Message) → sooner a b ≡ true → sooner b c ≡ true → sooner a c ≡ true
sooner_trans a b c e f = true-sooner a c (go (sooner-true a b e) (sooner-true b c f))
  where
    go : (a.deadline < b.deadline) ⊎ ((a.deadline ≡ b.deadline) × (a.source < b.source))
        → (b.deadline < c.deadline) ⊎ ((b.deadline ≡ c.deadline) × (b.source < c.source))
        → (a.deadline < c.deadline) ⊎ ((a.deadline ≡ c.deadline) × (a.source < c.source))
    go (inl l) (inl k) = inl (omega arith)
    go (inl l) (inr (q, k)) = inl (omega arith)
    go (inr (q, l)) (inl k) = inl (omega arith)
    go (inr (q, l)) (inr (r, k)) = inr (q ∙ r, omega arith)

sooner-none : (a b c : Message) → sooner a b ≡ false → sooner b c ≡ false → sooner a c ≡ false
sooner-none a b c e f = false-sooner a c (go (sooner-false a b e) (sooner-false b c f))
  where
    go : (b.deadline < a.deadline) ⊎ ((b.deadline ≡ a.deadline) × (b.source ≤ a.source))
        → (c.deadline < b.deadline) ⊎ ((c.deadline ≡ b.deadline) × (c.source ≤ b.source))
        → (c.deadline < a.deadline) ⊎ ((c.deadline ≡ a.deadline) × (c.source ≤ a.source))
    go (inl l) (inl k) = inl (omega arith)
    go (inl l) (inr (q, k)) = inl (omega arith)
    go (inr (q, l)) (inl k) = inl (omega arith)
    go (inr (q, l)) (inr (r, k)) = inr (r ∙ q, omega arith)

-- ---- a list with one message more

pub get_or_before : (ms : List Message) (m other : Message) (place : ℕ) → place < length ms → get_or (ms ++ (m ∷ [])) place other ≡ get_or ms place other
get_or_before [] m other place lt = absurd (omega arith)
get_or_before (x ∷ ms) m other zero lt = refl
get_or_before (x ∷ ms) m other (suc place) lt = get_or_before ms m other place (omega arith)

pub get_or_last : (ms : List Message) (m other : Message) → get_or (ms ++ (m ∷ [])) (length ms) other ≡ m
get_or_last [] m other = refl
get_or_last (x ∷ ms) m other = get_or_last ms m other

-- the place chosen, where that in ms is given: that of the message behind them, if it is ready and sooner, or none was chosen
unfoldable pub chosen_last : Bool → Message → List Message → Option ℕ → Option ℕ
chosen_last false m ms o = o
chosen_last true m ms none = some (length ms)
chosen_last true m ms (some place) = cond (sooner m (get_or ms place m)) (some (length ms)) (some place)

module _ (x m : Message) (ms : List Message) where
  -- one message ahead and one behind, in either order
  swap : (ahead behind : Bool) (o : Option ℕ) → ((place : ℕ) → o ≡ some place → place < length ms)
      → chosen ahead x (ms ++ (m ∷ [])) (chosen_last behind m ms o) ≡ chosen_last behind m (x ∷ ms) (chosen ahead x ms o)
  unfolding chosen chosen_last
  swap false false none within = refl
  swap false false (some place) within = refl
  swap true false none within = refl
  swap true false (some place) within = rw (get_or_before ms m x place (within place refl)) (unread (sooner (get_or ms place x) x))
    where
      unread : (b : Bool) → cond b (some (suc place)) (some 0) ≡ chosen_last false m (x ∷ ms) (cond b (some (suc place)) (some 0))
      unread true = refl
      unread false = refl
  swap false true none within = refl
  swap false true (some place) within = go (sooner m (get_or ms place m))
    where
      go : (b : Bool) → chosen false x (ms ++ (m ∷ [])) (cond b (some (length ms)) (some place)) ≡ cond b (some (suc (length ms))) (some (suc place))
      go true = refl
      go false = refl
  swap true true none within = rw (get_or_last ms m x)
  swap true true (some place) within = rw same (go (sooner m (get_or ms place x)) refl (sooner (get_or ms place x) x) refl)
    where
      same : get_or ms place m ≡ get_or ms place x
      same = get_or_default ms m x place (within place refl)

      go : (s : Bool) → sooner m (get_or ms place x) ≡ s → (t : Bool) → sooner (get_or ms place x) x ≡ t
          → chosen true x (ms ++ (m ∷ [])) (cond s (some (length ms)) (some place))
          ≡ chosen_last true m (x ∷ ms) (cond t (some (suc place)) (some 0))
      go true e true f = rw (get_or_last ms m x, sooner_trans m (get_or ms place x) x e f, same, e)
      go true e false f = rw (get_or_last ms m x)
      go false e true f = rw (get_or_before ms m x place (within place refl), f, same, e)
      go false e false f = rw (get_or_before ms m x place (within place refl), f, sooner-none m (get_or ms place x) x e f)

pub choice-snoc : (p : Panel) (ms : List Message) (m : Message) → choice p (ms ++ (m ∷ [])) ≡ chosen_last (ready p m) m ms (choice p ms)
unfolding choice chosen chosen_last
choice-snoc p [] m = alone (ready p m)
  where
    alone : (b : Bool) → chosen b m [] none ≡ chosen_last b m [] none
    alone true = refl
    alone false = refl
choice-snoc p (x ∷ ms) m =
    ap (chosen (ready p x) x (ms ++ (m ∷ []))) (choice-snoc p ms m)
    ∙ swap x m ms (ready p x) (ready p m) (choice p ms) (λ place e. (choice-some p ms m place e).0)
