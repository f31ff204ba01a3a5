-- Handing and settling at a panel of either make, beside one of the old make whose barrier is nowhere lower: the same log records, and again
-- such a barrier. Assumes nothing.
use Prim.Native.Nat.{ℕ, zero, suc, ◌≤◌, max}
use native.Mathlib.Omega.{arith}
use mathlib.Core.Path.{◌≡◌, refl, sym, ap, ◌∙◌}
use mathlib.Core.Logic.{⊎_elim}
use mathlib.Core.Option.{Option, none, some}
use mathlib.Core.List.{List, [], ◌∷◌, ◌++◌}
use lib.ListN.{length, get_or}
use Rattle.frame.specs.Message.{Message, message_of}
use Rattle.rules.specs.Panel.{Make, old_make, Panel, none64, lapsed, met, ready}
use Rattle.rules.specs.Handing.{raise, barrier_for, missed_at, hand, log_record, log_records}
use Rattle.rules.specs.Settling.{choice, chosen, without, with_waiting, Settled, waiting_at, hand_then, go_on, settle_in, settle}
use Rattle.rules.specs.Calls.{emptied}
use Rattle.barriers.specs.Barriers.{with_barrier}
use Rattle.rules.proofs.Raise.{length-raise, raise_mono, raise_bound, get_or-none64, length-none64}
use Rattle.rules.proofs.Shortened.{get_or-barrier_for, length-barrier_for}

-- ---- the record of the old make, and a barrier beside its own

pub record BesideOf (make : Make) (marks barrier : List ℕ) (high : ℕ) (b : List ℕ) : Type 0 where
  pub old : make ≡ old_make
  pub at_most : (k : ℕ) → get_or b k 0 ≤ get_or barrier k 0
  pub below_mark : (k : ℕ) → get_or barrier k 0 ≤ get_or marks k 0
  pub below_high : (k : ℕ) → get_or barrier k 0 ≤ high
  pub beside_64 : length b ≡ 64
  pub barrier_64 : length barrier ≡ 64
  pub marks_64 : length marks ≡ 64

-- the waiting list, the time and the floor make no difference
abbrev pub Beside : Panel → List ℕ → Type 0
Beside p b = BesideOf p.make p.marks p.barrier p.high b

-- both are emptied
pub beside_emptied : (p : Panel) (b : List ℕ) → Beside p b → Beside (emptied p) none64
beside_emptied p b B =
    record {
      old = B.old;
      at_most = λ k. omega arith;
      below_mark = λ k. omega (arith, get_or-none64 k);
      below_high = λ k. omega (arith, get_or-none64 k);
      beside_64 = length-none64;
      barrier_64 = length-none64;
      marks_64 = B.marks_64;
    }

-- the old make removes nothing
barrier_for_old : (make : Make) (p : Panel) (m : Message) → make ≡ old_make → barrier_for make p m ≡ p.barrier
unfolding barrier_for
barrier_for_old make p m e = rw e

module _ (p : Panel) (make : Make) (b : List ℕ) (B : Beside p b) (source deadline : ℕ) (entries entries' payload : List ℕ)
    (same : missed_at p entries' ≡ missed_at p entries) where
  abbrev m : Message
  m = message_of source deadline entries payload

  -- the same message, with other entries
  abbrev n : Message
  n = message_of source deadline entries' payload

  abbrev q : Panel
  q = with_barrier p make b

  -- one is handed
  beside_hand : Beside (hand p m) (raise (barrier_for make q n) n)
  unfolding hand raise
  beside_hand =
      let stays = barrier_for_old p.make p m B.old in
      record {
        old = B.old;
        at_most =
            rw stays
            (raise_mono (barrier_for make q n) p.barrier m (length-barrier_for make q n ∙ B.beside_64 ∙ sym B.barrier_64)
            (λ k. ⊎_elim (λ e. omega (arith, B.at_most k, e)) (λ e. omega (arith, e.0)) (get_or-barrier_for make q n k)));
        below_mark = rw stays (raise_mono p.barrier p.marks m (B.barrier_64 ∙ sym B.marks_64) B.below_mark);
        below_high = rw stays (raise_bound p.barrier m p.high B.below_high);
        beside_64 = length-raise (barrier_for make q n) n ∙ length-barrier_for make q n ∙ B.beside_64;
        barrier_64 = rw stays (length-raise p.barrier m ∙ B.barrier_64);
        marks_64 = length-raise p.marks m ∙ B.marks_64;
      }

  hand_beside : hand q n ≡ with_barrier (hand p m) make (raise (barrier_for make q n) n)
  unfolding hand raise
  hand_beside =
      ap
      (λ (risen : ℕ).
      record {
        own = p.own;
        time = p.time;
        high = (hand p m).high;
        marks = raise p.marks m;
        barrier = raise (barrier_for make q n) n;
        waiting = p.waiting;
        floor = max p.floor risen;
        make = make;
      })
      same

-- ---- settling

-- what a call has done at both: the same log records, and a record beside the old one
pub record BesideSettled (make : Make) (s t : Settled) : Type 0 where
  pub barrier : List ℕ
  pub panel : t.panel ≡ with_barrier s.panel make barrier
  pub beside : Beside s.panel barrier
  pub logged : log_records t.handed ≡ log_records s.handed
  pub count : length t.handed ≡ length s.handed

-- the choice does not ask for the barrier
choice_beside : (p : Panel) (make : Make) (b : List ℕ) (ms : List Message) → choice (with_barrier p make b) ms ≡ choice p ms
unfolding choice ready met lapsed
choice_beside p make b [] = refl
choice_beside p make b (m ∷ ms) = ap (chosen (ready p m) m ms) (choice_beside p make b ms)

-- settling, where it is so for what is left
abbrev pub Settler : (Panel → Settled) → Type 0
Settler settler = (p : Panel) (make : Make) (b : List ℕ) → Beside p b → BesideSettled make (settler p) (settler (with_barrier p make b))

-- a message, or the same with other entries, is handed first
module _ (settler : Panel → Settled) (settles : Settler settler) (p : Panel) (make : Make) (b : List ℕ) (B : Beside p b) (m : Message) (entries' : List ℕ)
    (missed-same : missed_at p entries' ≡ missed_at p m.entries) where
  abbrev other : Message
  other = message_of m.source m.deadline entries' m.payload

  pub hand_then_beside : BesideSettled make (hand_then settler p m) (hand_then settler (with_barrier p make b) other)
  unfolding log_records log_record
  hand_then_beside =
      let same = hand_beside p make b B m.source m.deadline m.entries entries' m.payload missed-same in
      let rest = settles (hand p m) make _ (beside_hand p make b B m.source m.deadline m.entries entries' m.payload missed-same) in
      let here : BesideSettled make (settler (hand p m)) (settler (hand (with_barrier p make b) other)) = rw same rest in
      record {
        barrier = here.barrier;
        panel = here.panel;
        beside = here.beside;
        logged = ap (λ (l : List ℕ). log_record m ++ l) here.logged;
        count = ap suc here.count;
      }

settle_in_beside : (n : ℕ) → Settler (settle_in n)
unfolding settle_in go_on
settle_in_beside zero p make b B = record { barrier = b; panel = refl; beside = B; logged = refl; count = refl }
settle_in_beside (suc n) p make b B =
    rw (choice_beside p make b p.waiting) (go (settle_in_beside n) (choice p p.waiting))
  where
    go : Settler (settle_in n) → (o : Option ℕ) → BesideSettled make (go_on (settle_in n) p o) (go_on (settle_in n) (with_barrier p make b) o)
    go rest none = record { barrier = b; panel = refl; beside = B; logged = refl; count = refl }
    go rest (some place) =
        let m = waiting_at p place in
        hand_then_beside (settle_in n) rest (with_waiting p (without place p.waiting)) make b B m m.entries refl

pub settle_beside : Settler settle
unfolding settle
settle_beside p make b B = settle_in_beside (length p.waiting) p make b B
