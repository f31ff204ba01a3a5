-- Before in cause: what holds of the messages sent, and how the relation changes when one more is sent. Assumes nothing.
use Prim.Native.Nat.{ℕ, ◌≤◌, ◌<◌}
use native.Mathlib.Nat.{eq-or-lt_of_le}
use native.Mathlib.Omega.{arith}
use mathlib.Core.Path.{◌≡◌, refl, sym, ap, ◌∙◌}
use mathlib.Core.Logic.{◌⊎◌, inl, inr, ⊎_elim}
use mathlib.Core.List.Memᴰ
use mathlib.Core.List.Memᴰ.{head as first}
use mathlib.Core.List.Memᴰ.{tail as later}
use mathlib.Core.List.{List, [], ◌∷◌}
use lib.ListN.{get_or}
use Rattle.frame.specs.Message.{Message}
use Rattle.frame.specs.Reading.{message_from}
use Rattle.frame.proofs.Readable.{Readable}
use Rattle.rules.specs.Sizes.{width}
use Rattle.rules.specs.Panel.{Name}
use Rattle.rules.specs.Lists.{◌is_in◌, name_in, Sent, Before, direct, chain}

-- the message that a frame sent carries, and its name
abbrev pub carried : Sent → Message
carried s = message_from s.frame

abbrev pub name : Sent → Name
name s = name_in s.frame

-- the name that an entry gives
abbrev pub named : ℕ → ℕ → Name
named source deadline = record { source = source; deadline = deadline }

pub name_path : {x y : Name} → x.source ≡ y.source → x.deadline ≡ y.deadline → x ≡ y
name_path p q = λ i. record { source = p i; deadline = q i }

-- the name of a message that was sent
abbrev pub Known : List Sent → Name → Type 0
Known ss x = (s : Sent) × (s is_in ss) × (name s ≡ x)

-- the same message, or before it in cause
abbrev pub Upto : List Sent → Name → Name → Type 0
Upto ss x y = (x ≡ y) ⊎ Before ss x y

-- x is, or is before, a message of the log that the entries name
abbrev pub Covered : List Sent → List Name → List ℕ → Name → Type 0
Covered ss log entries x = (n : Name) × (n is_in log) × (get_or entries n.source 0 ≡ n.deadline) × Upto ss x n

-- what holds of the messages sent
pub record SendsSound (ss : List Sent) : Type 0 where
  -- each has a frame
  pub readable : (s : Sent) → s is_in ss → Readable width (carried s)
  -- no two have one name
  pub unique : (s t : Sent) → s is_in ss → t is_in ss → name s ≡ name t → s ≡ t
  -- what stood in the sender's log was sent, and has a lower deadline
  pub known : (s : Sent) → s is_in ss → (x : Name) → x is_in s.past → Known ss x
  pub rising : (s : Sent) → s is_in ss → (x : Name) → x is_in s.past → x.deadline < (name s).deadline
  -- of one source, the lower deadline stood in the sender's log at the higher
  pub ordered : (s t : Sent) → s is_in ss → t is_in ss → (name s).source ≡ (name t).source → (name s).deadline < (name t).deadline
      → name s is_in t.past
  -- each entry names a message of the sender's log, and together they cover that log
  pub entry : (s : Sent) → s is_in ss → (k : ℕ) → 0 < get_or (carried s).entries k 0 → named k (get_or (carried s).entries k 0) is_in s.past
  pub cover : (s : Sent) → s is_in ss → (x : Name) → x is_in s.past → Covered ss s.past (carried s).entries x

pub nothing_sent : SendsSound []
nothing_sent =
    record {
      readable = λ s i. elim i [ ];
      unique = λ s t i. elim i [ ];
      known = λ s i. elim i [ ];
      rising = λ s i. elim i [ ];
      ordered = λ s t i. elim i [ ];
      entry = λ s i. elim i [ ];
      cover = λ s i. elim i [ ];
    }

-- ---- chains

pub upto_before : {ss : List Sent} {x y z : Name} → Upto ss x y → Before ss y z → Before ss x z
upto_before (inl e) b = rw e b
upto_before (inr a) b = chain a b

before_upto : {ss : List Sent} {x y z : Name} → Before ss x y → Upto ss y z → Before ss x z
before_upto a (inl e) = rw e at a
before_upto a (inr b) = chain a b

pub upto_upto : {ss : List Sent} {x y z : Name} → Upto ss x y → Upto ss y z → Upto ss x z
upto_upto a (inl e) = rw e at a
upto_upto a (inr b) = inr (upto_before a b)

-- the last step of a chain
abbrev pub LastStep : List Sent → Name → Name → Type 0
LastStep ss x z = (y : Name) × Upto ss x y × (s : Sent) × (s is_in ss) × (name s ≡ z) × (y is_in s.past)

pub last : {ss : List Sent} {x z : Name} → Before ss x z → LastStep ss x z
last (direct {x = x} s i e h) = (x, inl refl, s, i, e, h)
last (chain a b) = let r = last b in (r.0, inr (before_upto a r.1), r.2, r.3, r.4, r.5)

module _ {ss : List Sent} (S : SendsSound ss) where
  pub before_rises : {x y : Name} → Before ss x y → x.deadline < y.deadline
  before_rises (direct {x = x} s i e h) = omega (arith, S.rising s i x h, ap (λ (n : Name). n.deadline) e)
  before_rises (chain a b) = let p = before_rises a in let q = before_rises b in omega arith

  pub upto_rises : {x y : Name} → Upto ss x y → x.deadline ≤ y.deadline
  upto_rises (inl e) = omega (arith, ap (λ (n : Name). n.deadline) e)
  upto_rises (inr b) = let p = before_rises b in omega arith

  pub before_known : {x y : Name} → Before ss x y → Known ss x
  before_known (direct {x = x} s i e h) = S.known s i x h
  before_known (chain a b) = before_known a

  pub known_source : {x : Name} → Known ss x → x.source < 64
  known_source (s, i, e) = omega (arith, (S.readable s i).source, ap (λ (n : Name). n.source) e)

  pub known_deadline : {x : Name} → Known ss x → 0 < x.deadline
  known_deadline (s, i, e) = omega (arith, (S.readable s i).deadline, ap (λ (n : Name). n.deadline) e)

  -- of one source, the lower deadline is before the higher
  pub source_order : {x y : Name} → Known ss x → Known ss y → x.source ≡ y.source → x.deadline ≤ y.deadline → Upto ss x y
  source_order {x} {y} (s, i, e) (t, j, g) same le =
      ⊎_elim (λ k. inl (name_path same k))
      (λ k.
      inr (direct t j g (Memᴰ.cast (sym e)
      (S.ordered s t i j (cc) (omega (arith, ap (λ (n : Name). n.deadline) e, ap (λ (n : Name). n.deadline) g, k))))))
      (eq-or-lt_of_le le)

  -- whatever is before a message is, or is before, one that its entries name
  pub before_covered : (s : Sent) → s is_in ss → {y : Name} → Before ss y (name s) → Covered ss s.past (carried s).entries y
  before_covered s i {y} b = go (last b)
    where
      go : LastStep ss y (name s) → Covered ss s.past (carried s).entries y
      go (x, u, t, j, e, h) = let (n, ni, ne, v) = S.cover s i x (rw (S.unique t s j i e) at h) in (n, ni, ne, upto_upto u v)

-- ---- one more message is sent: nothing changes between those sent before

pub before_more : {ss : List Sent} {new : Sent} {x y : Name} → Before ss x y → Before (new ∷ ss) x y
before_more (direct s i e h) = direct s (later i) e h
before_more (chain a b) = chain (before_more a) (before_more b)

module _ {ss : List Sent} (S : SendsSound ss) {new : Sent} (unknown : ¬ Known ss (name new)) where
  before_fewer : {x y : Name} → Before (new ∷ ss) x y → (y ≡ name new) ⊎ Before ss x y
  before_fewer (direct s (first e) g h) = inl (sym g ∙ ap name e)
  before_fewer (direct s (later i) g h) = inr (direct s i g h)
  before_fewer (chain a b) = ⊎_elim (λ e. inl e) (λ c. step (before_known S c) (before_fewer a) c) (before_fewer b)
    where
      step : {x y z : Name} → Known ss y → (y ≡ name new) ⊎ Before ss x y → Before ss y z → (z ≡ name new) ⊎ Before ss x z
      step k (inl e) c = absurd (unknown (rw e at k))
      step k (inr d) c = inr (chain d c)

  pub before_old : {x y : Name} → Known ss y → Before (new ∷ ss) x y → Before ss x y
  before_old k b = ⊎_elim (λ e. absurd (unknown (rw e at k))) (λ c. c) (before_fewer b)
