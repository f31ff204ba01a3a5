-- The slots of the messages that have not lapsed, as a loop over the slots collects them. Assumes nothing.
use mathlib.Core.Path.{◌≡◌, refl, sym, ap, ◌∙◌}
use mathlib.Core.Bool.{true, false, cond}
use mathlib.Core.List.{List, [], ◌∷◌, ◌++◌, append-nil, append_assoc}
use mathlib.Core.Logic.{⊎_elim}
use Prim.Native.Nat.{ℕ, suc, ◌≤◌, ◌<◌}
use native.Mathlib.Nat.{eq-or-lt_of_le}
use native.Mathlib.Omega.{arith}
use lib.ListN.{length, get_or, take, set}
use lib.Seq.{take-suc-set, get_or-set_same, get_or-set_other}
use Rattle.frame.specs.Message.{Message}
use Rattle.frame.specs.Reading.{message_in}
use Rattle.rules.specs.Sizes.{width}
use Rattle.rules.specs.Panel.{Panel, has_lapsed, lapsed}
use Rattle.rules.specs.Calls.{alive}
use Rattle.slots.specs.Slots.{Reads, frame_at, carried, held, up_from, first_slots}
use Rattle.slots.specs.Alive.{Alive}
use Rattle.slots.specs.declared.Places.{Places}
use Rattle.slots.proofs.Held.{carried_reads, held-append, held-suc}

-- the first slots have been looked at, and the places kept are those of the messages alive
pub record Chosen (slots : List ℕ) (time floor slot : ℕ) (places : List ℕ) (kept : ℕ) : Type 0 where
  pub few : kept ≤ slot
  pub rises : (k : ℕ) → k < kept → k ≤ get_or places k 0
  pub below : (k : ℕ) → k < kept → get_or places k 0 < slot
  pub reads : (k : ℕ) → k < kept → Reads (frame_at slots (get_or places k 0))
  pub messages : (p : Panel) → p.time ≡ time → p.floor ≡ floor → held slots (take kept places) ≡ alive p (held slots (first_slots slot))

pub chosen_none : (slots : List ℕ) (time floor : ℕ) (places : List ℕ) → Chosen slots time floor 0 places 0
unfolding held alive up_from
chosen_none slots time floor places =
    record {
      few = omega arith;
      rises = λ k lt. omega arith;
      below = λ k lt. absurd (omega arith);
      reads = λ k lt. absurd (omega arith);
      messages = λ p t f. refl;
    }

alive-append : (p : Panel) (ms more : List Message) → alive p (ms ++ more) ≡ alive p ms ++ alive p more
unfolding alive
alive-append p [] more = refl
alive-append p (m ∷ ms) more = rw (alive-append p ms more, append_assoc (cond (lapsed p m.deadline) [] (m ∷ [])) (alive p ms) (alive p more))

alive-one : (p : Panel) (m : Message) → alive p (m ∷ []) ≡ cond (lapsed p m.deadline) [] (m ∷ [])
unfolding alive
alive-one p m = append-nil (cond (lapsed p m.deadline) [] (m ∷ []))

module _ (slots : List ℕ) (time floor slot : ℕ) (places : List ℕ) (kept : ℕ) (chosen : Chosen slots time floor slot places kept)
    (reads : Reads (frame_at slots slot)) where
  abbrev m : Message
  m = message_in width (frame_at slots slot)

  -- one slot more: what is alive of it stands behind the others
  alive-suc : (p : Panel) → alive p (held slots (first_slots (suc slot)))
      ≡ alive p (held slots (first_slots slot)) ++ cond (lapsed p m.deadline) [] (m ∷ [])
  alive-suc p =
      ap (alive p) (held-suc slots slot) ∙ alive-append p (held slots (first_slots slot)) (carried (frame_at slots slot) ∷ [])
      ∙ rw (carried_reads (frame_at slots slot) reads, alive-one p m)

  pub chosen-lapsed : has_lapsed time floor m.deadline ≡ true → Chosen slots time floor (suc slot) places kept
  unfolding lapsed
  chosen-lapsed late =
      record {
        few = omega (arith, chosen.few);
        rises = chosen.rises;
        below = λ k lt. omega (arith, chosen.below k lt);
        reads = chosen.reads;
        messages = λ p t f. chosen.messages p t f ∙ sym (alive-suc p ∙ rw (t, f, late, append-nil));
      }

  pub chosen-alive : kept < length places → has_lapsed time floor m.deadline ≡ false
      → Chosen slots time floor (suc slot) (set places kept slot) (suc kept)
  unfolding lapsed held
  chosen-alive room due =
      record {
        few = omega (arith, chosen.few);
        rises = λ k lt. at k (λ place. k ≤ place) lt (λ below. chosen.rises k below) (λ e. omega (arith, chosen.few));
        below = λ k lt. at k (λ place. place < suc slot) lt (λ below. omega (arith, chosen.below k below)) (λ e. omega arith);
        reads = λ k lt. at k (λ place. Reads (frame_at slots place)) lt (chosen.reads k) (λ e. reads);
        messages = λ p t f.
            ap (held slots) (take-suc-set places kept slot room) ∙ held-append slots (take kept places) (slot ∷ [])
            ∙ rw (chosen.messages p t f, carried_reads (frame_at slots slot) reads)
            (sym (alive-suc p ∙ rw (t, f, due)));
      }
    where
      at : (k : ℕ) (P : ℕ → Type 0) → k < suc kept → (k < kept → P (get_or places k 0)) → (k ≡ kept → P slot) → P (get_or (set places kept slot) k 0)
      at k P lt old new =
          ⊎_elim
          (λ (e : suc k ≡ suc kept).
          let same : k ≡ kept = omega arith in
          let here : get_or (set places kept slot) k 0 ≡ slot = rw same (get_or-set_same places kept slot 0 room) in
          rw here (new same))
          (λ (l : suc k < suc kept). rw (get_or-set_other places kept k slot 0 (λ e. omega arith)) (old (omega arith)))
          (eq-or-lt_of_le lt)

pub chosen_all : (slots : List ℕ) (count time floor : ℕ) (places : Places) → count ≤ 32
    → Chosen slots time floor count places.slots places.count → Alive slots count time floor places
chosen_all slots count time floor places few chosen =
    record {
      listed =
          record {
            few = omega (arith, chosen.few);
            rises = chosen.rises;
            below = λ k lt. omega (arith, chosen.below k lt);
            reads = chosen.reads;
          };
      messages = chosen.messages;
    }
