-- What the checks and the test for ready answer, as a trace shows it. Assumes nothing.
use Prim.Native.Nat.{ℕ}
use mathlib.Core.Path.{◌≡◌, refl, sym, ap, ◌∙◌}
use mathlib.Core.Bool.{Bool, true, false, cond}
use mathlib.Core.List.{List, [], ◌∷◌}
use lib.ListN.{length}
use Rattle.frame.specs.Message.{Message}
use Rattle.frame.specs.Refusal.{first_of}
use Rattle.frame.specs.Reading.{width_in, checks, refusal_of, message_from}
use Rattle.frame.proofs.FirstOf.{each_number, first_of_left, first_of_right}
use Rattle.frame.proofs.Passed.{reading-zero, reading-refused}
use Rattle.rules.specs.Panel.{Panel, lapsed, met, ready}
use Rattle.rules.specs.Refusals.{broken, message_checks}
use Rattle.visits.specs.Visiting.{Entry, entries_of, is_met, up_to_unmet, visits, trace_checks, trace}
use Rattle.choosing.specs.Choice.{asking}
use Rattle.checking.proofs.MessageChecks.{ready-asking}

-- ---- the visits ask for the marks, the time and the floor alone

up_to_unmet-asking : (p : Panel) (es : List Entry) → up_to_unmet (asking p.marks p.time p.floor) es ≡ up_to_unmet p es
unfolding up_to_unmet met lapsed
up_to_unmet-asking p [] = refl
up_to_unmet-asking p (e ∷ es) = ap (λ (l : List Entry). e ∷ cond (is_met p e) l []) (up_to_unmet-asking p es)

visits-asking : (p : Panel) (m : Message) → visits (asking p.marks p.time p.floor) m ≡ visits p m
visits-asking p m = ap (λ (l : List Entry). length l) (up_to_unmet-asking p (entries_of m))

module _ (p : Panel) (bytes : List ℕ) where
  -- ---- the number of the first check that applies

  pub number-broken : broken p ≡ true → 26 ≡ first_of (trace_checks p bytes)
  unfolding trace_checks first_of
  number-broken e = rw e

  pub number_unread : (is_broken : Bool) (check : ℕ) → is_broken ≡ broken p → check ≡ refusal_of bytes → (check ≡ 0 → ⊥)
      → cond is_broken 26 check ≡ first_of (trace_checks p bytes)
  unfolding trace_checks first_of
  number_unread is_broken check e c unread =
      rw (e, c) (ap (cond (broken p) 26) (sym (first_of_left (checks (width_in bytes) bytes) (message_checks p (message_from bytes)) (λ none. unread (c ∙ none)))))

  pub number_read : broken p ≡ false → refusal_of bytes ≡ 0 → first_of (message_checks p (message_from bytes)) ≡ first_of (trace_checks p bytes)
  unfolding trace_checks first_of checks each_number
  number_read e reads = rw e (sym (first_of_right (checks (width_in bytes) bytes) (message_checks p (message_from bytes)) refl reads))

  -- ---- what is shown, with that number

  module _ (number : ℕ) (first : number ≡ first_of (trace_checks p bytes)) where
    -- the bytes read as no message
    pub shown_unread : (refusal_of bytes ≡ 0 → ⊥) → record { number = number; ready = false; visited = 0 } ≡ trace p bytes
    unfolding trace
    shown_unread unread = rw (reading-refused (width_in bytes) bytes unread, first)

    -- they read, and their message was tested
    pub shown_read : refusal_of bytes ≡ 0 → (is_ready : Bool) (visited : ℕ) → let asked = asking p.marks p.time p.floor in
        is_ready ≡ ready asked (message_from bytes) → visited ≡ visits asked (message_from bytes)
        → record { number = number; ready = is_ready; visited = visited } ≡ trace p bytes
    unfolding trace
    shown_read reads is_ready visited e counted =
        rw (
          reading-zero (width_in bytes) bytes reads,
          first,
          e ∙ ready-asking p (message_from bytes),
          counted ∙ visits-asking p (message_from bytes),
        )
