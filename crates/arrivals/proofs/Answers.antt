-- What receives of frames that were sent answer on the way. Assumes nothing.
use native.Mathlib.Omega.{arith}
use mathlib.Core.Path.{◌≡◌, refl, ap, ◌∙◌}
use mathlib.Core.Logic.{⊎_elim, ◌≢◌}
use mathlib.Core.Bool.{true, ◌||◌}
use mathlib.Core.List.Memᴰ.{head as first}
use mathlib.Core.List.Memᴰ.{tail as later}
use mathlib.Core.List.{List, [], ◌∷◌, ◌++◌}
use lib.Dec.{eqb}
use borrow.Author.Tests.{eqb-true}
use Rattle.frame.specs.Message.{Message}
use Rattle.frame.specs.Refusal.{first_of}
use Rattle.frame.proofs.FirstOf.{each_number, first_of_each}
use Rattle.rules.specs.Panel.{Panel}
use Rattle.rules.specs.Refusals.{message_checks}
use Rattle.rules.specs.Results.{Result}
use Rattle.rules.specs.Lists.{Made, Lawful}
use Rattle.rules.proofs.Booleans.{or_either}
use Rattle.arrivals.specs.Arrival.{on_the_way, AnswersOnTheWay}
use Rattle.arrivals.proofs.SentFrames.{sent_in, heard_promised}
use Rattle.arrivals.proofs.TurnedDown.{number_is}

message-number : (p : Panel) (m : Message) → first_of (message_checks p m) ≢ 23 → on_the_way (first_of (message_checks p m)) ≡ true
unfolding message_checks each_number
message-number p m not_23 =
    let number = first_of (message_checks p m) in
    ⊎_elim (λ e. e) (λ e. absurd (not_23 (eqb-true number 23 e)))
    (or_either (on_the_way number) (eqb number 23) (first_of_each (λ n. on_the_way n || eqb n 23) (message_checks p m) refl refl))

-- After every list of demand 3: 0, 20, 21, 22 or 32.
pub answers_on_the_way : (list : List Made) → Lawful list → AnswersOnTheWay list
answers_on_the_way list lawful i number make [] (last ∷ heard) all promised made k = elim all [ ]
answers_on_the_way list lawful i number make (frame ∷ frames) [] all promised made k = elim all [ ]
answers_on_the_way list lawful i number make [] [] all promised made k = elim k [ ]
answers_on_the_way list lawful i number make (frame ∷ frames) (last ∷ heard) (H, all) (promise, promised) made (first e) =
    let F = sent_in list lawful i make frame frames last heard (H, all) promised in
    let defined-so = heard_promised (heard ++ list) H promise in
    let is =
    ap (λ (r : Result). r.number) defined-so ∙ number_is (heard ++ list) i make frame H.output F H.long_enough (omega (arith, number, (F.sound.sites i).own)) in
    ap (λ (x : Made). on_the_way x.result.number) e ∙ ap on_the_way is ∙ message-number _ _ (λ q. H.not_23 (is ∙ q))
answers_on_the_way list lawful i number make (frame ∷ frames) (last ∷ heard) (H, all) (promise, promised) made (later k) =
    answers_on_the_way list lawful i number make frames heard all promised made k
