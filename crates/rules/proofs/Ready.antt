-- What `lapsed`, `met` and `ready` say. Which deadlines have lapsed at a panel is one number, its limit; which messages its log may go
-- without is another, `dead`. Only this file looks into them. Assumes nothing.
use Prim.Native.Nat.{ℕ, zero, suc, ◌+◌, ◌≤◌, ◌<◌, max}
use native.Mathlib.Nat.{eq-or-lt_of_le, le_of_suc-le-suc, not-suc-le-zero}
use native.Mathlib.Omega.{arith}
use mathlib.Core.Path.{◌≡◌, refl, ap, ◌∙◌}
use mathlib.Core.Logic.{◌⊎◌, inl, inr, ⊎_elim}
use mathlib.Core.Bool.{Bool, true, false, ◌||◌, true≢false}
use mathlib.Core.List.{List}
use lib.ListN.{get_or}
use lib.Dec.{leb}
use borrow.Author.Tests.{leb-true, leb-false}
use Rattle.frame.specs.Message.{Message}
use Rattle.frame.proofs.Conjunction.{and_both}
use Rattle.rules.specs.Panel.{Make, Panel, of_make, lapsed, met, each_panel, ready}
use Rattle.rules.specs.Handing.{hand}
use Rattle.rules.specs.Settling.{with_waiting}
use Rattle.rules.specs.Calls.{send_deadline, emptied, with_time}
use Rattle.rules.proofs.Booleans.{and_either, or_neither}
use Rattle.rules.proofs.Missed.{has_lapsed-true, has_lapsed-false, missed-lapsed, missed_ge}

-- ---- lapsed

-- the deadlines that have lapsed are those below
unfoldable pub limit : Panel → ℕ
limit p = max p.time (p.floor + 1)

pub lapsed-true : (p : Panel) (deadline : ℕ) → lapsed p deadline ≡ true → deadline < limit p
unfolding lapsed limit
lapsed-true p deadline e = has_lapsed-true p.time p.floor deadline e

pub lapsed-false : (p : Panel) (deadline : ℕ) → lapsed p deadline ≡ false → limit p ≤ deadline
unfolding lapsed limit
lapsed-false p deadline e = let (late, above) = has_lapsed-false p.time p.floor deadline e in omega arith

pub limit-lapsed : (p : Panel) (deadline : ℕ) → deadline < limit p → lapsed p deadline ≡ true
unfolding lapsed limit
limit-lapsed p deadline lt = go (lapsed p deadline) refl
  where
    go : (b : Bool) → lapsed p deadline ≡ b → b ≡ true
    go true e = refl
    go false e = absurd (omega (arith, lt, lapsed-false p deadline e))

pub limit_floor : (p : Panel) → p.floor < limit p
unfolding limit
limit_floor p = omega arith

-- by time or by floor
pub below_limit : (p : Panel) (deadline : ℕ) → (deadline < p.time) ⊎ (deadline ≤ p.floor) → deadline < limit p
unfolding limit
below_limit p deadline (inl l) = omega arith
below_limit p deadline (inr l) = omega arith

-- the deadline of a send has not lapsed, if the floor is not above high
pub limit-send_deadline : (p : Panel) (lifetime : ℕ) → p.floor ≤ p.high → limit p ≤ send_deadline p lifetime
unfolding limit send_deadline
limit-send_deadline p lifetime le = omega arith

-- ---- dead

-- a message before one of the log is in the log too, or its deadline is below
unfoldable pub dead : Panel → ℕ
dead p = p.floor + 1

pub dead_floor : (p : Panel) (deadline : ℕ) → deadline < dead p → deadline ≤ p.floor
unfolding dead
dead_floor p deadline lt = omega arith

pub dead-limit : (p : Panel) → dead p ≤ limit p
unfolding dead limit
dead-limit p = omega arith

-- an entry that has lapsed, and that no mark has reached, is dead once its message is handed
pub dead_entry : (p : Panel) (m : Message) (panel : ℕ) → panel < 64 → lapsed p (get_or m.entries panel 0) ≡ true
    → get_or p.marks panel 0 < get_or m.entries panel 0 → get_or m.entries panel 0 < dead (hand p m)
unfolding lapsed dead hand
dead_entry p m panel lt e above = omega (arith, missed_ge p.time p.floor (λ k. get_or p.marks k 0) m.entries panel lt e above)

-- ---- changes of the record

module _ (p : Panel) where
  -- the floor never rises above what has lapsed
  pub limit-hand : (m : Message) → limit (hand p m) ≡ limit p
  unfolding limit hand
  limit-hand m = omega (arith, missed-lapsed p.time p.floor (λ k. get_or p.marks k 0) m.entries)

  pub dead-hand : (m : Message) → dead p ≤ dead (hand p m)
  unfolding dead hand
  dead-hand m = omega arith

  -- which make it is of makes no difference
  pub limit-of_make : (make : Make) → limit (of_make make p) ≡ limit p
  unfolding limit
  limit-of_make make = refl

  pub dead-of_make : (make : Make) → dead (of_make make p) ≡ dead p
  unfolding dead
  dead-of_make make = refl

  pub ready-of_make : (make : Make) (m : Message) → ready (of_make make p) m ≡ ready p m
  unfolding lapsed met ready
  ready-of_make make m = refl

  pub limit-with_waiting : (ms : List Message) → limit (with_waiting p ms) ≡ limit p
  unfolding limit
  limit-with_waiting ms = refl

  pub dead-with_waiting : (ms : List Message) → dead (with_waiting p ms) ≡ dead p
  unfolding dead
  dead-with_waiting ms = refl

  pub limit-emptied : limit (emptied p) ≡ limit p
  unfolding limit
  limit-emptied = refl

  pub dead-emptied : dead (emptied p) ≡ dead p
  unfolding dead
  dead-emptied = refl

  pub dead-with_time : (time : ℕ) → dead (with_time p time) ≡ dead p
  unfolding dead
  dead-with_time time = refl

  pub limit-with_time : (time : ℕ) → time ≤ p.time → limit (with_time p time) ≤ limit p
  unfolding limit
  limit-with_time time le = omega arith

-- ---- ready

pub each_panel-true : (n : ℕ) (test : ℕ → Bool) → each_panel n test ≡ true → (panel : ℕ) → panel < n → test panel ≡ true
unfolding each_panel
each_panel-true zero test e panel lt = absurd (not-suc-le-zero lt)
each_panel-true (suc n) test e panel lt =
    let (below, here) = and_both (each_panel n test) (test n) e in
    ⊎_elim (λ (q : panel ≡ n). ap test q ∙ here) (λ (l : panel < n). each_panel-true n test below panel l) (eq-or-lt_of_le (le_of_suc-le-suc lt))

pub each_panel-false : (n : ℕ) (test : ℕ → Bool) → each_panel n test ≡ false → (panel : ℕ) × (panel < n) × (test panel ≡ false)
unfolding each_panel
each_panel-false zero test e = absurd (true≢false e)
each_panel-false (suc n) test e =
    ⊎_elim (λ (q : each_panel n test ≡ false). let (panel, lt, f) = each_panel-false n test q in (panel, omega arith, f))
    (λ (q : test n ≡ false). (n, omega arith, q)) (and_either (each_panel n test) (test n) e)

-- of a ready message each entry is reached by the mark of its panel, or will be dead
pub ready-true : (p : Panel) (m : Message) → ready p m ≡ true → (panel : ℕ) → panel < 64
    → (get_or m.entries panel 0 ≤ get_or p.marks panel 0) ⊎ (get_or m.entries panel 0 < dead (hand p m))
unfolding ready met
ready-true p m e panel lt = go (leb (get_or m.entries panel 0) (get_or p.marks panel 0)) refl (each_panel-true 64 _ e panel lt)
  where
    go : (reached : Bool) → leb (get_or m.entries panel 0) (get_or p.marks panel 0) ≡ reached
        → (reached || lapsed p (get_or m.entries panel 0)) ≡ true
        → (get_or m.entries panel 0 ≤ get_or p.marks panel 0) ⊎ (get_or m.entries panel 0 < dead (hand p m))
    go true q f = inl (leb-true _ _ q)
    go false q f = inr (dead_entry p m panel lt f (leb-false _ _ q))

-- of one that is not ready some entry is neither reached nor lapsed
pub ready-false : (p : Panel) (m : Message) → ready p m ≡ false
    → (panel : ℕ) × (panel < 64) × (get_or p.marks panel 0 < get_or m.entries panel 0) × (limit p ≤ get_or m.entries panel 0)
unfolding ready met
ready-false p m e =
    let (panel, lt, f) = each_panel-false 64 _ e in
    let (above, live) = or_neither _ _ f in
    (panel, lt, leb-false _ _ above, lapsed-false p _ live)

pub ready-with_waiting : (p : Panel) (ms : List Message) (m : Message) → ready (with_waiting p ms) m ≡ ready p m
unfolding ready met lapsed
ready-with_waiting p ms m = refl

-- what is not ready is not ready either where the time is lower
pub ready-with_time : (p : Panel) (time : ℕ) → time ≤ p.time → (m : Message) → ready p m ≡ false → ready (with_time p time) m ≡ false
ready-with_time p time le m e = go (ready (with_time p time) m) refl (ready-false p m e)
  where
    go : (r : Bool) → ready (with_time p time) m ≡ r
        → (panel : ℕ) × (panel < 64) × (get_or p.marks panel 0 < get_or m.entries panel 0) × (limit p ≤ get_or m.entries panel 0) → r ≡ false
    go false q unmet = refl
    go true r (panel, lt, above, live) =
        let q = with_time p time in
        absurd (⊎_elim (λ (l : get_or m.entries panel 0 ≤ get_or p.marks panel 0). omega arith)
        (λ l. omega (arith, l, live, dead-limit (hand q m), limit-hand q m, limit-with_time p time le))
        (ready-true q m r panel lt))
