-- Laws of the waiting list: one leaves it, one enters it, the lapsed are dropped. Assumes nothing.
use Prim.Native.Nat.{ℕ, zero, suc, ◌≤◌, ◌<◌}
use native.Mathlib.Nat.{not-suc-le-zero}
use native.Mathlib.Omega.{arith}
use mathlib.Core.Path.{◌≡◌, refl, sym, ap, ◌∙◌}
use mathlib.Core.Logic.{◌⊎◌, inl, inr, ⊎_elim, ◌≢◌}
use mathlib.Core.Bool.{Bool, true, false, cond, ◌&&◌}
use mathlib.Core.List.Memᴰ
use mathlib.Core.List.Memᴰ.{head as first}
use mathlib.Core.List.Memᴰ.{tail as later}
use mathlib.Core.List.{List, [], ◌∷◌, ◌++◌}
use lib.ListN.{length, get_or}
use lib.Dec.{eqb}
use borrow.Author.Tests.{eqb-false}
use Rattle.frame.specs.Message.{Message}
use Rattle.rules.specs.Panel.{Name, name_of, Panel, lapsed}
use Rattle.rules.specs.Settling.{without}
use Rattle.rules.specs.Calls.{alive}
use Rattle.rules.specs.Refusals.{is_waiting}
use Rattle.rules.specs.Lists.{◌is_in◌}
use Rattle.rules.proofs.Booleans.{and_either, or_neither}
use Rattle.rules.proofs.Ready.{limit, lapsed-true, lapsed-false}

-- ---- one leaves

pub is_in_without : (place : ℕ) (ms : List Message) (w : Message) → w is_in without place ms → w is_in ms
unfolding without
is_in_without zero [] w i = i
is_in_without (suc place) [] w i = i
is_in_without zero (m ∷ ms) w i = later i
is_in_without (suc place) (m ∷ ms) w (first e) = first e
is_in_without (suc place) (m ∷ ms) w (later i) = later (is_in_without place ms w i)

pub get_or_is_in : (place : ℕ) (ms : List Message) (other : Message) → place < length ms → get_or ms place other is_in ms
get_or_is_in place [] other lt = absurd (not-suc-le-zero lt)
get_or_is_in zero (m ∷ ms) other lt = first refl
get_or_is_in (suc place) (m ∷ ms) other lt = later (get_or_is_in place ms other (omega arith))

pub without_is_in : (place : ℕ) (ms : List Message) (other w : Message) → w is_in ms → (w ≡ get_or ms place other) ⊎ (w is_in without place ms)
unfolding without
without_is_in zero [] other w i = elim i [ ]
without_is_in (suc place) [] other w i = elim i [ ]
without_is_in zero (m ∷ ms) other w (first e) = inl e
without_is_in zero (m ∷ ms) other w (later i) = inr i
without_is_in (suc place) (m ∷ ms) other w (first e) = inr (first e)
without_is_in (suc place) (m ∷ ms) other w (later i) = ⊎_elim (λ e. inl e) (λ k. inr (later k)) (without_is_in place ms other w i)

pub length_without : (place : ℕ) (ms : List Message) → place < length ms → suc (length (without place ms)) ≡ length ms
unfolding without
length_without place [] lt = absurd (not-suc-le-zero lt)
length_without zero (m ∷ ms) lt = refl
length_without (suc place) (m ∷ ms) lt = ap suc (length_without place ms (omega arith))

-- ---- no two of one name

abbrev pub Distinct : List Message → Type 0
Distinct [] = Unit {0}
Distinct (m ∷ ms) = ((w : Message) → w is_in ms → name_of w ≢ name_of m) × Distinct ms

pub Distinct-without : (place : ℕ) (ms : List Message) → Distinct ms → Distinct (without place ms)
unfolding without
Distinct-without zero [] d = tt
Distinct-without (suc place) [] d = tt
Distinct-without zero (m ∷ ms) d = d.1
Distinct-without (suc place) (m ∷ ms) d = (λ w i. d.0 w (is_in_without place ms w i), Distinct-without place ms d.1)

pub Distinct-get_or : (place : ℕ) (ms : List Message) (other : Message) → place < length ms → Distinct ms
    → (w : Message) → w is_in without place ms → name_of w ≢ name_of (get_or ms place other)
unfolding without
Distinct-get_or place [] other lt d w i = absurd (not-suc-le-zero lt)
Distinct-get_or zero (m ∷ ms) other lt d w i = d.0 w i
Distinct-get_or (suc place) (m ∷ ms) other lt d w (first e) = λ q. d.0 _ (get_or_is_in place ms other (omega arith)) (sym q ∙ ap name_of e)
Distinct-get_or (suc place) (m ∷ ms) other lt d w (later i) = Distinct-get_or place ms other (omega arith) d.1 w i

-- ---- one enters

pub is_in_end : {A : Type 0} {x y : A} (l : List A) → x is_in l ++ (y ∷ []) → (x is_in l) ⊎ (x ≡ y)
is_in_end l i = ⊎_elim (λ k. inl k) (λ k. inr (Memᴰ.eq_of_singleton k)) (Memᴰ.append_cases l i)

pub Distinct_end : (ms : List Message) (m : Message) → Distinct ms → ((w : Message) → w is_in ms → name_of w ≢ name_of m) → Distinct (ms ++ (m ∷ []))
Distinct_end [] m d new = (λ w i. absurd (Memᴰ.not-nil i), tt)
Distinct_end (x ∷ ms) m d new = (
  λ w i. ⊎_elim (λ k. d.0 w k) (λ e q. new x (first refl) (sym q ∙ ap name_of e)) (is_in_end ms i),
  Distinct_end ms m d.1 (λ w i. new w (later i)),
)

pub is_waiting-false : (m : Message) (ws : List Message) → is_waiting m ws ≡ false → (w : Message) → w is_in ws → name_of w ≢ name_of m
unfolding is_waiting
is_waiting-false m [] e w i same = elim i [ ]
is_waiting-false m (x ∷ ws) e w (first q) same =
    ⊎_elim (λ f. eqb-false m.source x.source f (ap (λ (n : Name). n.source) (sym same ∙ ap name_of q)))
    (λ f. eqb-false m.deadline x.deadline f (ap (λ (n : Name). n.deadline) (sym same ∙ ap name_of q)))
    (and_either (eqb m.source x.source) (eqb m.deadline x.deadline)
    (or_neither (eqb m.source x.source && eqb m.deadline x.deadline) (is_waiting m ws) e).0)
is_waiting-false m (x ∷ ws) e w (later i) same =
    is_waiting-false m ws (or_neither (eqb m.source x.source && eqb m.deadline x.deadline) (is_waiting m ws) e).1 w i same

-- ---- the lapsed are dropped

-- the first of the list and the rest, whichever way its test falls
alive_case : (p : Panel) (m : Message) (ms : List Message) (P : List Message → Type 0) → (m.deadline < limit p → P (alive p ms))
    → (limit p ≤ m.deadline → P (m ∷ alive p ms)) → P (alive p (m ∷ ms))
unfolding alive
alive_case p m ms P gone stays = go (lapsed p m.deadline) refl
  where
    go : (b : Bool) → lapsed p m.deadline ≡ b → P (cond b [] (m ∷ []) ++ alive p ms)
    go true e = gone (lapsed-true p m.deadline e)
    go false e = stays (lapsed-false p m.deadline e)

pub is_in_alive : (p : Panel) (ms : List Message) (w : Message) → w is_in alive p ms → (w is_in ms) × (limit p ≤ w.deadline)
unfolding alive
is_in_alive p [] w i = absurd (Memᴰ.not-nil i)
is_in_alive p (m ∷ ms) w i =
    alive_case p m ms (λ l. w is_in l → (w is_in m ∷ ms) × (limit p ≤ w.deadline)) (λ _. below (is_in_alive p ms w)) (here (is_in_alive p ms w)) i
  where
    below : (w is_in alive p ms → (w is_in ms) × (limit p ≤ w.deadline)) → w is_in alive p ms → (w is_in m ∷ ms) × (limit p ≤ w.deadline)
    below r k = (later (r k).0, (r k).1)

    here : (w is_in alive p ms → (w is_in ms) × (limit p ≤ w.deadline)) → limit p ≤ m.deadline → w is_in m ∷ alive p ms
        → (w is_in m ∷ ms) × (limit p ≤ w.deadline)
    here r le (first e) = (first e, rw e le)
    here r le (later k) = below r k

pub alive_is_in : (p : Panel) (ms : List Message) (w : Message) → w is_in ms → (w is_in alive p ms) ⊎ (w.deadline < limit p)
alive_is_in p [] w i = elim i [ ]
alive_is_in p (m ∷ ms) w (first e) = alive_case p m ms (λ l. (w is_in l) ⊎ (w.deadline < limit p)) (λ lt. inr (rw e lt)) (λ _. inl (first e))
alive_is_in p (m ∷ ms) w (later i) =
    alive_case p m ms (λ l. (w is_in l) ⊎ (w.deadline < limit p)) (λ _. alive_is_in p ms w i)
    (λ _. ⊎_elim (λ k. inl (later k)) (λ lt. inr lt) (alive_is_in p ms w i))

pub Distinct-alive : (p : Panel) (ms : List Message) → Distinct ms → Distinct (alive p ms)
unfolding alive
Distinct-alive p [] d = tt
Distinct-alive p (m ∷ ms) d =
    alive_case p m ms Distinct (λ _. Distinct-alive p ms d.1) (λ _. (λ w i. d.0 w (is_in_alive p ms w i).0, Distinct-alive p ms d.1))

pub length-alive : (p : Panel) (ms : List Message) → length (alive p ms) ≤ length ms
unfolding alive
length-alive p [] = omega arith
length-alive p (m ∷ ms) =
    let below = length-alive p ms in
    alive_case p m ms (λ l. length l ≤ suc (length ms)) (λ _. omega arith) (λ _. omega arith)
