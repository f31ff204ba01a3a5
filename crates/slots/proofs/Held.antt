-- Laws of `held` and `between`: the messages in slots, as loops over the slots meet them. Assumes nothing.
use mathlib.Core.Path.{◌≡◌, refl, sym, ap, ◌∙◌}
use mathlib.Core.Bool.{true, false}
use mathlib.Core.List.{List, [], ◌∷◌, ◌++◌}
use Prim.Native.Nat.{ℕ, zero, suc, ◌+◌, ◌-◌, ◌≤◌, ◌<◌}
use native.Mathlib.Nat.{add-zero, sub-zero}
use native.Mathlib.Omega.{arith}
use lib.ListN.{length, get_or, take, set}
use lib.Seq.{take-suc-set}
use Rattle.numbers.specs.Numbers.{Bytes}
use Rattle.frame.specs.Message.{Message, message_of}
use Rattle.frame.specs.Reading.{message_in}
use Rattle.frame.specs.Readable.{readable}
use Rattle.frame.proofs.Readable.{readable-true, readable_deadline}
use Rattle.frame.proofs.Passed.{zero_passed, reading-zero, reading-refused, passed_readable}
use Rattle.rules.specs.Sizes.{width}
use Rattle.slots.specs.Slots.{Reads, frame_at, carried, held, up_from, first_slots}

-- ---- the message that a frame carries

pub carried_reads : (bs : List ℕ) → Reads bs → carried bs ≡ message_in width bs
unfolding carried
carried_reads bs r = rw (reading-zero width bs r)

pub readable-carried : (bs : List ℕ) → Bytes bs → Reads bs → readable width (carried bs) ≡ true
readable-carried bs b r = rw (carried_reads bs r) (readable-true width (message_in width bs) (passed_readable width bs b (zero_passed width bs r)))

pub unreadable_carried : (bs : List ℕ) → (Reads bs → ⊥) → readable width (carried bs) ≡ false
unfolding carried
unreadable_carried bs no-reading = rw (reading-refused width bs no-reading) (readable_deadline width (message_of 0 0 [] []) refl)

-- ---- slots in order

-- the slots from one on and below another
abbrev pub between : ℕ → ℕ → List ℕ
between first limit = up_from first (limit - first)

pub between_all : (limit : ℕ) → between 0 limit ≡ first_slots limit
between_all limit = ap (up_from 0) (sub-zero limit)

pub between_step : (first limit : ℕ) → first < limit → between first limit ≡ first ∷ between (suc first) limit
unfolding up_from
between_step first limit lt = let e : limit - first ≡ suc (limit - suc first) = omega arith in rw e

pub between_none : (first limit : ℕ) → limit ≤ first → between first limit ≡ []
unfolding up_from
between_none first limit le = let e : limit - first ≡ 0 = omega arith in rw e

up_from_snoc : (first n : ℕ) → up_from first (suc n) ≡ up_from first n ++ ((first + n) ∷ [])
unfolding up_from
up_from_snoc first zero = rw add-zero
up_from_snoc first (suc n) =
    let e : suc first + n ≡ first + suc n = omega arith in
    rw (up_from_snoc (suc first) n, e)

pub first_slots-suc : (n : ℕ) → first_slots (suc n) ≡ first_slots n ++ (n ∷ [])
first_slots-suc n = let e : 0 + n ≡ n = omega arith in up_from_snoc 0 n ∙ ap (λ (k : ℕ). up_from 0 n ++ (k ∷ [])) e

pub first_slots-set : (places : List ℕ) (n : ℕ) → n < length places → take n places ≡ first_slots n → take (suc n) (set places n n) ≡ first_slots (suc n)
first_slots-set places n lt e = take-suc-set places n n lt ∙ ap (λ (l : List ℕ). l ++ (n ∷ [])) e ∙ sym (first_slots-suc n)

pub length_up_from : (first n : ℕ) → length (up_from first n) ≡ n
unfolding up_from
length_up_from first zero = refl
length_up_from first (suc n) = ap suc (length_up_from (suc first) n)

pub get_or_up_from : (first n k : ℕ) → k < n → get_or (up_from first n) k 0 ≡ first + k
unfolding up_from
get_or_up_from first zero k lt = absurd (omega arith)
get_or_up_from first (suc n) zero lt = omega arith
get_or_up_from first (suc n) (suc k) lt = get_or_up_from (suc first) n k (omega arith) ∙ omega arith

pub take_up_from : (first n k : ℕ) → k ≤ n → take k (up_from first n) ≡ up_from first k
unfolding up_from
take_up_from first n zero le = refl
take_up_from first zero (suc k) le = absurd (omega arith)
take_up_from first (suc n) (suc k) le = ap (λ (l : List ℕ). first ∷ l) (take_up_from (suc first) n k (omega arith))

-- ---- the messages in the slots

pub length-held : (slots places : List ℕ) → length (held slots places) ≡ length places
unfolding held
length-held slots [] = refl
length-held slots (place ∷ places) = ap suc (length-held slots places)

pub held-append : (slots places more : List ℕ) → held slots (places ++ more) ≡ held slots places ++ held slots more
unfolding held
held-append slots [] more = refl
held-append slots (place ∷ places) more = ap (λ (ms : List Message). carried (frame_at slots place) ∷ ms) (held-append slots places more)

pub length-first_slots : (slots : List ℕ) (count : ℕ) → length (held slots (first_slots count)) ≡ count
length-first_slots slots count = length-held slots (first_slots count) ∙ length_up_from 0 count

pub held-step : (slots : List ℕ) (slot limit : ℕ) → slot < limit
    → held slots (between slot limit) ≡ carried (frame_at slots slot) ∷ held slots (between (suc slot) limit)
unfolding held
held-step slots slot limit lt = rw (between_step slot limit lt)

pub held_none : (slots : List ℕ) (slot limit : ℕ) → limit ≤ slot → held slots (between slot limit) ≡ []
unfolding held
held_none slots slot limit le = rw (between_none slot limit le)

pub held-suc : (slots : List ℕ) (n : ℕ) → held slots (first_slots (suc n)) ≡ held slots (first_slots n) ++ (carried (frame_at slots n) ∷ [])
unfolding held
held-suc slots n = ap (held slots) (first_slots-suc n) ∙ held-append slots (first_slots n) (n ∷ [])

-- two lists of slots, one for one with the same frames
pub held_same : (slots others : List ℕ) (places : List ℕ) (first : ℕ)
    → ((k : ℕ) → k < length places → frame_at others (first + k) ≡ frame_at slots (get_or places k 0))
    → held others (up_from first (length places)) ≡ held slots places
unfolding held up_from
held_same slots others [] first same = refl
held_same slots others (place ∷ places) first same =
    let here : frame_at others first ≡ frame_at slots place = ap (frame_at others) (sym (add-zero first)) ∙ same 0 (omega arith) in
    rw (
      here,
      held_same slots others places (suc first) (λ k lt. let e : suc first + k ≡ first + suc k = omega arith in ap (frame_at others) e ∙ same (suc k) (omega arith)),
    )
