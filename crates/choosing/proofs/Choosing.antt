-- Laws of the choice: the first among those looked at, and one message more. Assumes nothing.
use Prim.Native.Nat.{ℕ, suc, ◌≤◌, ◌<◌}
use native.Mathlib.Omega.{arith}
use mathlib.Core.Path.{◌≡◌, refl, sym, ap, ◌∙◌}
use mathlib.Core.Bool.{Bool, true, false, cond, ◌&&◌, ◌||◌}
use mathlib.Core.Option.{Option as Chosen, none, some}
use Rattle.std.specs.Prelude.{Option, Some, None}
use mathlib.Core.List.{List, [], ◌∷◌, ◌++◌}
use lib.ListN.{length, get_or, take}
use lib.Seq.{take-suc, length-take-le, take_all}
use lib.Dec.{ltb}
use borrow.Author.Tests.{le-ltb, eq-eqb, ne_eqb}
use Rattle.frame.specs.Message.{Message, message_of}
use Rattle.rules.specs.Panel.{Panel, ready, met, lapsed}
use Rattle.rules.specs.Settling.{sooner, chosen, choice}
use Rattle.rules.proofs.Choice.{choice-some, get_or_default}
use Rattle.choosing.proofs.ChoiceUpwards.{get_or_before, get_or_last, chosen_last, choice-snoc}
use Rattle.choosing.specs.Choice.{asking, first_in, goes_before, goes_first, considered}
use Rattle.choosing.specs.declared.First.{First}

-- ---- whether a message goes before the one found

or_false : (b : Bool) → (b || false) ≡ b
or_false true = refl
or_false false = refl

module _ (deadline source : ℕ) (first : First) where
  pub goes_before_deadline : (deadline ≡ first.deadline → ⊥) → goes_before deadline source first ≡ ltb deadline first.deadline
  goes_before_deadline h = rw (ne_eqb deadline first.deadline h) (or_false (ltb deadline first.deadline))

  pub goes_before_source : deadline ≡ first.deadline → goes_before deadline source first ≡ ltb source first.source
  goes_before_source h = rw (eq-eqb deadline first.deadline h, le-ltb deadline first.deadline (omega arith))

-- ---- one message more, behind those looked at

module _ (r : Bool) (place : ℕ) (m : Message) (first : Option First) where
  pub considered_later : goes_first m first ≡ false → considered r place m first ≡ first
  considered_later e = rw e

  pub considered_unready : r ≡ false → considered r place m first ≡ first
  considered_unready e = rw e (go (goes_first m first))
    where
      go : (b : Bool) → cond (b && false) (Some (record { place = place; deadline = m.deadline; source = m.source })) first ≡ first
      go true = refl
      go false = refl

  pub considered-ready : goes_first m first ≡ true → r ≡ true
      → considered r place m first ≡ Some (record { place = place; deadline = m.deadline; source = m.source })
  considered-ready e f = rw (e, f)

-- ---- the message behind those looked at, where the first of them is their choice

-- what is found among the messages before a place of the list
abbrev pub first_below : Panel → List Message → ℕ → Option First
first_below p ms place = first_in (take place ms) (choice p (take place ms))

first_in_before : (ms : List Message) (m : Message) (place : ℕ) → place < length ms → first_in (ms ++ (m ∷ [])) (some place) ≡ first_in ms (some place)
first_in_before ms m place lt =
    ap {B = Option First} (λ (x : Message). Some (record { place = place; deadline = x.deadline; source = x.source }))
    (get_or_before ms m (message_of 0 0 [] []) place lt)

first_in_last : (ms : List Message) (m : Message)
    → first_in (ms ++ (m ∷ [])) (some (length ms)) ≡ Some (record { place = length ms; deadline = m.deadline; source = m.source })
first_in_last ms m =
    ap {B = Option First} (λ (x : Message). Some (record { place = length ms; deadline = x.deadline; source = x.source }))
    (get_or_last ms m (message_of 0 0 [] []))

goes_before-some : (ms : List Message) (m : Message) (place : ℕ) → place < length ms
    → goes_first m (first_in ms (some place)) ≡ sooner m (get_or ms place m)
unfolding sooner
goes_before-some ms m place lt = ap (sooner m) (get_or_default ms (message_of 0 0 [] []) m place lt)

considered-choice : (p : Panel) (ms : List Message) (m : Message)
    → considered (ready p m) (length ms) m (first_in ms (choice p ms)) ≡ first_in (ms ++ (m ∷ [])) (choice p (ms ++ (m ∷ [])))
unfolding chosen_last
considered-choice p ms m = go (ready p m) (choice p ms) refl ∙ ap (first_in (ms ++ (m ∷ []))) (sym (choice-snoc p ms m))
  where
    against : (b : Bool) (place : ℕ) → place < length ms
        → cond (b && true) (Some (record { place = length ms; deadline = m.deadline; source = m.source })) (first_in ms (some place))
        ≡ first_in (ms ++ (m ∷ [])) (cond b (some (length ms)) (some place))
    against true place lt = sym (first_in_last ms m)
    against false place lt = sym (first_in_before ms m place lt)

    go : (b : Bool) (o : Chosen ℕ) → choice p ms ≡ o → considered b (length ms) m (first_in ms o) ≡ first_in (ms ++ (m ∷ [])) (chosen_last b m ms o)
    go false none e = refl
    go false (some place) e =
        considered_unready false (length ms) m (first_in ms (some place)) refl ∙ sym (first_in_before ms m place (choice-some p ms m place e).0)
    go true none e = sym (first_in_last ms m)
    go true (some place) e =
        let lt = (choice-some p ms m place e).0 in
        rw (goes_before-some ms m place lt) (against (sooner m (get_or ms place m)) place lt)

-- the message at a place, against those before it
pub first_below-suc : (p : Panel) (ms : List Message) (place : ℕ) (m : Message) → place < length ms → get_or ms place m ≡ m
    → considered (ready p m) place m (first_below p ms place) ≡ first_below p ms (suc place)
first_below-suc p ms place m lt e =
    let more : take (suc place) ms ≡ take place ms ++ (m ∷ []) = take-suc ms place m lt ∙ ap (λ (x : Message). take place ms ++ (x ∷ [])) e in
    let size : length (take place ms) ≡ place = length-take-le place ms (omega arith) in
    ap (λ (k : ℕ). considered (ready p m) k m (first_below p ms place)) (sym size)
    ∙ considered-choice p (take place ms) m
    ∙ ap (λ (l : List Message). first_in l (choice p l)) (sym more)

-- before the first place
pub first_below-none : (p : Panel) (ms : List Message) → first_below p ms 0 ≡ None
unfolding choice
first_below-none p ms = refl

-- at the end of the list
pub first_below_all : (p : Panel) (ms : List Message) (place : ℕ) → length ms ≤ place → first_below p ms place ≡ first_in ms (choice p ms)
first_below_all p ms place le = ap (λ (l : List Message). first_in l (choice p l)) (take_all place ms le)

-- ---- what is found, and the choice

-- the choice asks for the marks, the time and the floor alone
choice-asking : (p : Panel) (ms : List Message) → choice p ms ≡ choice (asking p.marks p.time p.floor) ms
unfolding choice ready met lapsed
choice-asking p [] = refl
choice-asking p (m ∷ ms) = ap (chosen (ready p m) m ms) (choice-asking p ms)

pub first_in-none : (p : Panel) (ms : List Message) → first_in ms (choice (asking p.marks p.time p.floor) ms) ≡ None → choice p ms ≡ none
first_in-none p ms e = choice-asking p ms ∙ go _ e
  where
    go : (o : Chosen ℕ) → first_in ms o ≡ None → o ≡ none
    go none e = refl
    go (some place) e = absurd (cc)

pub first_in-some : (p : Panel) (ms : List Message) (first : First) → first_in ms (choice (asking p.marks p.time p.floor) ms) ≡ Some first
    → choice p ms ≡ some first.place
first_in-some p ms first e = choice-asking p ms ∙ go _ e
  where
    go : (o : Chosen ℕ) → first_in ms o ≡ Some first → o ≡ some first.place
    go none e = absurd (cc)
    go (some place) e = let is : record { place = place; deadline = (get_or ms place (message_of 0 0 [] [])).deadline; source = (get_or ms place (message_of 0 0 [] [])).source } ≡ first = cc in ap (λ (x : First). some x.place) is
