-- The order of arrival, of lists of calls in a farm. Assumes nothing.
use Prim.Native.Nat.{ℕ, ◌<◌}
use mathlib.Core.Path.{◌≡◌, subst, subst⁻¹}
use mathlib.Core.Bool.{true}
use mathlib.Core.List.{List, ◌++◌, map-append}
use Rattle.rules.specs.Panel.{Make}
use Rattle.rules.specs.Lists.{◌is_in◌, Made, sends, Lawful, AllPromised}
use Rattle.arrivals.specs.Arrival.{AllHeard, SameFrames, SameEnd, on_the_way}
use Rattle.arrivals.proofs.Arrival.{arrival_order}
use Rattle.arrivals.proofs.Answers.{answers_on_the_way}
use Rattle.demands.specs.Lists.{FarmCall, made_in, farm, Follows}
use Rattle.demands.proofs.Following.{follows_promised}

-- a list of calls, and some behind it
followed : (heard list : List FarmCall) → Follows (heard ++ list) → AllPromised (farm heard ++ farm list)
followed heard list follows = subst AllPromised (map-append made_in heard list) (follows_promised (heard ++ list) follows)

pub farm_arrival_order : (list : List FarmCall) → Follows list → Lawful (farm list) → (panel : ℕ) (make : Make) (frames_one frames_two : List (List ℕ))
    → SameFrames frames_one frames_two → (one two : List FarmCall) → Follows (one ++ list) → Follows (two ++ list)
    → AllHeard (sends (farm list)) panel make frames_one (farm one) → AllHeard (sends (farm list)) panel make frames_two (farm two)
    → SameEnd panel (farm (one ++ list)) (farm (two ++ list))
farm_arrival_order list follows lawful panel make frames_one frames_two frames one two follows-one follows-two heard-one heard-two =
    subst⁻¹ (λ (l : List Made). SameEnd panel l (farm (two ++ list))) (map-append made_in one list)
    (subst⁻¹ (SameEnd panel (farm one ++ farm list)) (map-append made_in two list)
    (arrival_order (farm list) lawful (follows_promised list follows) panel make frames_one frames_two frames (farm one) (farm two) heard-one heard-two
    (followed one list follows-one) (followed two list follows-two)))

pub farm-answers : (list : List FarmCall) → Lawful (farm list) → (panel : ℕ) → panel < 64 → (make : Make) (frames : List (List ℕ)) (heard : List FarmCall)
    → Follows (heard ++ list) → AllHeard (sends (farm list)) panel make frames (farm heard)
    → (made : Made) → made is_in farm heard → on_the_way made.result.number ≡ true
farm-answers list lawful panel number make frames heard follows all =
    answers_on_the_way (farm list) lawful panel number make frames (farm heard) all (followed heard list follows)
