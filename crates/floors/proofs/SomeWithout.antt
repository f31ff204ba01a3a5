-- Some panels of a farm keep no floor, and are never set back: they do as the others would in their place, so the logs are in order.
-- Assumes nothing.
use Prim.Native.Nat.{ℕ}
use native.Mathlib.Omega.{arith}
use mathlib.Core.Path.{◌≡◌, refl, ap, ap₂, subst, subst⁻¹}
use mathlib.Core.Bool.{Bool, true, false, cond, not, ◌&&◌, true≢false}
use mathlib.Core.List.{List, [], ◌∷◌, map}
use borrow.Author.Tests.{eqb-true, eq-eqb}
use lib.Dec.{eqb}
use Rattle.frame.proofs.Conjunction.{and_both}
use Rattle.rules.specs.Panel.{Make, Panel, of_make, fresh}
use Rattle.rules.specs.Results.{Call, Result, defined}
use Rattle.rules.specs.Lists.{Made, on, record_at, given_to, Lawful, ran}
use Rattle.rules.specs.Cases.{with_floor}
use Rattle.rules.proofs.Booleans.{not-true}
use Rattle.rules.proofs.Theorems.{every_list}
use Rattle.floors.specs.Floors.{is_set_back, never_set_back, IdleFloor, AlikeButFloor, kept_by, ran_where, LogsInOrder}
use Rattle.floors.proofs.NoFloor.{no_floor_needed}
use Rattle.floors.proofs.SameWords.{bare_result, bare, lawful_too, in_order_too}

-- ---- one call

-- A panel's record in the two lists: the same, but for the floor of a panel that keeps none, where the other's decides nothing.
record SameRecord (keeps : Bool) (one other : Panel) : Type 0 where
  kept : kept_by keeps other ≡ kept_by keeps one
  idle : keeps ≡ false → IdleFloor one.floor one.time

-- the results of a call in the two lists
record SameStep (keeps : Bool) (one other : Result) : Type 0 where
  results : bare_result other ≡ bare_result one
  records : SameRecord keeps one.panel other.panel

alike_bare : (one other : Result) → AlikeButFloor one other → bare_result other ≡ bare_result one
alike_bare one other A = rw (A.number, A.count, A.output, A.frame_length, A.buffer)

step : (keeps : Bool) (p q : Panel) (call : Call) → SameRecord keeps p q → (keeps ≡ false → is_set_back call ≡ false)
    → SameStep keeps (defined p call) (defined (kept_by keeps q) call)
step true p q call S clear =
    subst⁻¹ (λ (r : Panel). SameStep true (defined p call) (defined r call)) S.kept
    (record { results = refl; records = record { kept = refl; idle = λ e. absurd (true≢false e) } })
step false p q call S clear =
    let A = no_floor_needed p 0 (S.idle refl) (omega arith) call (clear refl) in
    subst⁻¹ (λ (r : Panel). SameStep false (defined p call) (defined r call)) S.kept
    (record {
      results = alike_bare (defined p call) (defined (with_floor 0 p) call) A;
      records = record { kept = ap (with_floor 0) A.panel; idle = λ _. A.idle };
    })

of_make_lem : (keeps : Bool) (make : Make) (p q : Panel) → SameRecord keeps p q → SameRecord keeps (of_make make p) (of_make make q)
of_make_lem true make p q S = record { kept = ap (of_make make) S.kept; idle = S.idle }
of_make_lem false make p q S = record { kept = ap (of_make make) S.kept; idle = S.idle }

-- ---- a list

never_both : (panel : ℕ) (last : Made) (earlier : List Made) → never_set_back panel (last ∷ earlier) ≡ true
    → (not (on panel last && is_set_back last.call) ≡ true) × (never_set_back panel earlier ≡ true)
unfolding never_set_back
never_both panel last earlier never = and_both _ _ never

module _ (keeps : ℕ → Bool) where
  -- no panel that keeps no floor is set back
  abbrev NotSetBack : List (ℕ × Make × Call) → Type 0
  NotSetBack calls = (panel : ℕ) → keeps panel ≡ false → never_set_back panel (ran_where keeps calls) ≡ true

  -- the two lists
  record SameLists (one other : List Made) : Type 0 where
    lists : map bare other ≡ map bare one
    records : (panel : ℕ) → SameRecord (keeps panel) (record_at panel one) (record_at panel other)

  -- one more call: its result where every panel keeps a floor, and where some keep none
  module _ (one other : List Made) (S : SameLists one other) (at : ℕ) (make : Make) (call : Call) where
    abbrev result : Result
    result = defined (given_to at make one) call

    abbrev result_too : Result
    result_too = defined (kept_by (keeps at) (given_to at make other)) call

    abbrev with_result : Result → List Made → List Made
    with_result r earlier = record { at = at; make = make; call = call; result = r } ∷ earlier

    one_more : (keeps at ≡ false → is_set_back call ≡ false) → SameLists (with_result result one) (with_result result_too other)
    unfolding record_at
    one_more clear = record { lists = ap₂ with_result T.results S.lists; records = λ panel. records panel (eqb panel at) refl }
      where
        T : SameStep (keeps at) result result_too
        T = step (keeps at) (given_to at make one) (given_to at make other) call (of_make_lem (keeps at) make _ _ (S.records at)) clear

        records : (panel : ℕ) (here : Bool) → eqb panel at ≡ here
            → SameRecord (keeps panel) (cond here result.panel (record_at panel one)) (cond here result_too.panel (record_at panel other))
        records panel true e =
            subst⁻¹ (λ (k : ℕ). SameRecord (keeps k) result.panel result_too.panel) (eqb-true panel at e) T.records
        records panel false e = S.records panel

  same_fresh : SameLists [] []
  unfolding record_at fresh
  same_fresh =
      let nothing : IdleFloor 0 0 = omega arith in
      record { lists = refl; records = λ panel. record { kept = refl; idle = λ _. nothing } }

  same_lists : (calls : List (ℕ × Make × Call)) → NotSetBack calls → SameLists (ran defined calls) (ran_where keeps calls)
  same_lists [] clear = same_fresh
  same_lists ((at, make, call) ∷ earlier) clear =
      one_more (ran defined earlier) (ran_where keeps earlier)
      (same_lists earlier (λ panel none. (never_both panel _ (ran_where keeps earlier) (clear panel none)).1))
      at make call
      (λ none.
      not-true _
      (subst (λ (here : Bool). not (here && is_set_back call) ≡ true) (eq-eqb at at refl)
      (never_both at _ (ran_where keeps earlier) (clear at none)).0))

-- ---- the logs

-- Panels that keep no floor and are never set back share a farm with the others: what demand 3 says of the logs holds.
pub some_without_floor : (keeps : ℕ → Bool) (calls : List (ℕ × Make × Call))
    → ((panel : ℕ) → keeps panel ≡ false → never_set_back panel (ran_where keeps calls) ≡ true) → Lawful (ran_where keeps calls)
    → LogsInOrder (ran_where keeps calls)
some_without_floor keeps calls clear lawful =
    let one = ran defined calls in
    let other = ran_where keeps calls in
    let same = (same_lists keeps calls clear).lists in
    in_order_too one other same (every_list defined (λ p call. refl) calls (lawful_too one other same lawful))
