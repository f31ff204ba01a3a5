-- Slots whose first so many hold readable frames: how a panel's record comes to have them, and that they are listed in order. Assumes nothing.
use mathlib.Core.Path.{◌≡◌, sym, ap, ◌∙◌}
use mathlib.Core.Bool.{true, true≢false}
use mathlib.Core.List.{List}
use mathlib.Core.Logic.{by_cases}
use Prim.Native.Nat.{ℕ, zero, suc, ◌+◌, ◌≤◌, ◌<◌}
use native.Mathlib.Decide.{ℕ_discrete}
use native.Mathlib.Omega.{arith}
use lib.ListN.{get_or, take}
use Rattle.frame.specs.Readable.{readable}
use Rattle.frame.specs.Reading.{refusal}
use Rattle.frame.proofs.Conjunction.{and_both}
use Rattle.rules.specs.Sizes.{width}
use Rattle.rules.specs.Refusals.{each_readable}
use Rattle.slots.specs.Slots.{Reads, Kept, Listed, frame_at, carried, held, up_from, first_slots}
use Rattle.slots.proofs.Held.{unreadable_carried, get_or_up_from, take_up_from}

-- ---- from refusal 26

reads_carried : (bs : List ℕ) → readable width (carried bs) ≡ true → Reads bs
reads_carried bs e =
    by_cases (ℕ_discrete (refusal width bs) 0) (λ reads. reads) (λ unread. absurd (true≢false (sym e ∙ unreadable_carried bs unread)))

each_readable_reads : (slots : List ℕ) (first n : ℕ) → each_readable (held slots (up_from first n)) ≡ true
    → (k : ℕ) → k < n → Reads (frame_at slots (first + k))
unfolding each_readable held up_from
each_readable_reads slots first zero e k lt = absurd (omega arith)
each_readable_reads slots first (suc n) e zero lt =
    let here : first + 0 ≡ first = omega arith in
    rw here (reads_carried (frame_at slots first) (and_both (readable width (carried (frame_at slots first))) (each_readable (held slots (up_from (suc first) n))) e).0)
each_readable_reads slots first (suc n) e (suc k) lt =
    let next : first + suc k ≡ suc first + k = omega arith in
    let rest = (and_both (readable width (carried (frame_at slots first))) (each_readable (held slots (up_from (suc first) n))) e).1 in
    rw next (each_readable_reads slots (suc first) n rest k (omega arith))

pub kept_readable : (slots : List ℕ) (count : ℕ) → count ≤ 32 → each_readable (held slots (first_slots count)) ≡ true → Kept slots count
kept_readable slots count few e =
    record { few = few; reads = λ slot lt. let z : 0 + slot ≡ slot = omega arith in rw z at (each_readable_reads slots 0 count e slot lt) }

-- ---- all slots in order are listed

order_at : (k : ℕ) → k < 32 → get_or (first_slots 32) k 0 ≡ k
order_at k lt = get_or_up_from 0 32 k lt ∙ omega arith

pub listed_order : (slots : List ℕ) (count : ℕ) → Kept slots count → Listed slots count (first_slots 32)
listed_order slots count kept =
    record {
      few = kept.few;
      rises = λ k lt. omega (arith, order_at k (omega (arith, kept.few)));
      below = λ k lt. omega (arith, order_at k (omega (arith, kept.few)), kept.few);
      reads = λ k lt. rw (order_at k (omega (arith, kept.few))) (kept.reads k lt);
    }

pub held_order : (slots : List ℕ) (count : ℕ) → count ≤ 32 → held slots (take count (first_slots 32)) ≡ held slots (first_slots count)
held_order slots count few = ap (held slots) (take_up_from 0 32 count few)
