-- The words of demand 3 do not look into a record given back: two lists that differ in nothing else have the same words. Assumes nothing.
use Prim.Native.Nat.{ℕ, ◌≤◌, ◌<◌}
use mathlib.Core.Path.{◌≡◌, refl, sym, ap, ◌∙◌, subst}
use mathlib.Core.Logic.{◌⊎◌, ◌↔◌}
use mathlib.Core.Bool.{cond}
use mathlib.Core.List.{List, [], ◌∷◌, ◌++◌, map}
use Rattle.rules.specs.Panel.{Name, Make, fresh}
use Rattle.rules.specs.Results.{Call, send, receive, clock, set_back, Result}
use Rattle.rules.specs.Lists.{◌is_in◌, Made, on, frames_sent, frames_taken, name_in, sent_at, names_in, log_at, time_after, time_at, Sent, sends, Before, Given, Lawful}
use Rattle.rules.specs.Lapsing.{floor_after, floor_at, still_taken, taken_at}
use Rattle.rules.specs.Demand3.{Ahead, Demand3}
use Rattle.floors.specs.Floors.{LogsInOrder}

-- the words of a list, together
record Words : Type 0 where
  sent : ℕ → List Name
  taken : ℕ → List Name
  log : ℕ → List Name
  time : ℕ → ℕ
  floor : ℕ → ℕ
  sends : List Sent

abbrev words_of : List Made → Words
words_of list =
    record {
      sent = λ panel. sent_at panel list;
      taken = λ panel. taken_at panel list;
      log = λ panel. log_at panel list;
      time = λ panel. time_at panel list;
      floor = λ panel. floor_at panel list;
      sends = sends list;
    }

-- `ExactlyWhen`, of the words alone
abbrev ExactlyWhenIn : Words → Type 0
ExactlyWhenIn w =
    let Lapsed : ℕ → Name → Type 0 = λ panel x. (x.deadline < w.time panel) ⊎ (x.deadline ≤ w.floor panel) in
    (panel : ℕ) (n : Name) → (n is_in w.sent panel) ⊎ (n is_in w.taken panel) → ¬ Lapsed panel n
    → (n is_in w.log panel) ↔ ((x : Name) → Before w.sends x n → (x is_in w.log panel) ⊎ Lapsed panel x)

-- a result without the record given back
abbrev pub bare_result : Result → Result
bare_result r = record { number = r.number; panel = fresh 0; count = r.count; output = r.output; frame_length = r.frame_length; buffer = r.buffer }

-- a call without it
abbrev pub bare : Made → Made
bare made = record { at = made.at; make = made.make; call = made.call; result = bare_result made.result }

-- the words after one more call
after : Words → Made → Words
after w made =
    let sends' = map (λ frame. record { frame = frame; past = w.log made.at }) (frames_sent made.call made.result) ++ w.sends in
    let time' : ℕ → ℕ = λ panel. cond (on panel made) (time_after (w.time panel) made.call made.result) (w.time panel) in
    record {
      sent = λ panel. cond (on panel made) (map name_in (frames_sent made.call made.result)) [] ++ w.sent panel;
      taken = λ panel.
          cond (on panel made)
          (map name_in (frames_taken made.call made.result) ++ still_taken (w.log panel) (w.floor panel) (w.taken panel) made.call made.result)
          (w.taken panel);
      log = λ panel. w.log panel ++ cond (on panel made) (names_in made.result.count made.result.output) [];
      time = time';
      floor = λ panel.
          cond (on panel made)
          (floor_after sends' (time' panel) (w.floor panel) (w.log panel) (names_in made.result.count made.result.output))
          (w.floor panel);
      sends = sends';
    }

words_of_after : (made : Made) (earlier : List Made) → words_of (made ∷ earlier) ≡ after (words_of earlier) made
unfolding after sent_at taken_at log_at time_at floor_at sends
words_of_after made earlier = refl

after_bare : (w : Words) (at : ℕ) (make : Make) (call : Call) (result : Result)
    → after w (bare (record { at = at; make = make; call = call; result = result })) ≡ after w (record { at = at; make = make; call = call; result = result })
unfolding after frames_sent frames_taken time_after still_taken
after_bare w at make (send payload lifetime output buffer) result = refl
after_bare w at make (receive bytes output) result = refl
after_bare w at make (clock time output) result = refl
after_bare w at make (set_back reading) result = refl

-- the words look into no record given back
words_bare : (list : List Made) → words_of (map bare list) ≡ words_of list
unfolding sent_at taken_at log_at time_at floor_at sends
words_bare [] = refl
words_bare (made ∷ earlier) =
    words_of_after (bare made) (map bare earlier)
    ∙ ap (λ (w : Words). after w (bare made)) (words_bare earlier)
    ∙ after_bare (words_of earlier) made.at made.make made.call made.result
    ∙ sym (words_of_after made earlier)

-- nor does what demand 3 allows
given_bare : (sent : List Sent) (call : Call) (result : Result) → Given sent call (bare_result result) ≡ Given sent call result
unfolding Given
given_bare sent (send payload lifetime output buffer) result = refl
given_bare sent (receive bytes output) result = refl
given_bare sent (clock time output) result = refl
given_bare sent (set_back reading) result = refl

lawful_bare : (list : List Made) → Lawful (map bare list) ≡ Lawful list
lawful_bare [] = refl
lawful_bare (made ∷ earlier) =
    rw (ap (λ (w : Words). w.sends) (words_bare earlier), given_bare (sends earlier) made.call made.result, lawful_bare earlier)

-- ---- two lists that differ in the records given back alone

module _ (one other : List Made) (same : map bare other ≡ map bare one) where
  same_words : words_of one ≡ words_of other
  same_words = sym (words_bare one) ∙ ap words_of (sym same) ∙ words_bare other

  pub lawful_too : Lawful other → Lawful one
  lawful_too lawful = rw (sym (lawful_bare one), sym same, lawful_bare other) lawful

  pub in_order_too : Demand3 one → LogsInOrder other
  in_order_too demand =
      record {
        exactly_when = subst (λ (w : Words). ExactlyWhenIn w) same_words demand.exactly_when;
        none_twice = subst (λ (w : Words). (panel : ℕ) (x : Name) → ¬ Ahead x x (w.log panel)) same_words demand.none_twice;
        none_ahead = subst (λ (w : Words). (panel : ℕ) (x y : Name) → Ahead x y (w.log panel) → ¬ Before w.sends y x) same_words demand.none_ahead;
      }
