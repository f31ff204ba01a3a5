-- The checks of a message that was read, one after the other. Assumes nothing.
use Prim.Native.Nat.{ℕ, ◌+◌, ◌≤◌, ◌<◌}
use native.Mathlib.Omega.{arith}
use mathlib.Core.Path.{◌≡◌, refl, sym}
use mathlib.Core.Bool.{Bool, true, false, ◌&&◌}
use mathlib.Core.List.{List, []}
use lib.ListN.{length, get_or}
use lib.Dec.{leb}
use borrow.Author.Tests.{lt-ltb, le-ltb, le-leb, lt-leb, eq-eqb, ne_eqb}
use Rattle.frame.specs.Message.{Message}
use Rattle.frame.specs.Refusal.{first_of}
use Rattle.frame.specs.Reading.{message_in}
use Rattle.frame.proofs.Passed.{zero_passed}
use Rattle.rules.specs.Sizes.{width}
use Rattle.slots.specs.Slots.{Reads}
use Rattle.frame.proofs.FirstOf.{Past, pass, stop, each_number, Past-take, first_of_take}
use Rattle.rules.specs.Panel.{Panel, has_lapsed, lapsed, met, ready}
use Rattle.rules.specs.Refusals.{is_waiting, farthest_ahead, too_far_ahead, message_checks}
use Rattle.choosing.specs.Choice.{asking}
use Rattle.lent.specs.Record.{parts, record_of}
use Rattle.checking.specs.Checks.{early_checks, full_number}

-- the source of bytes that read is one of the 64 panels
pub source_few : (bs : List ℕ) (source : ℕ) → Reads bs → source ≡ (message_in width bs).source → source < 64
unfolding message_in
source_few bs source reads is = omega (arith, is, (zero_passed width bs reads).source)

-- ready asks for the marks, the time and the floor alone
pub ready-asking : (p : Panel) (m : Message) → ready (asking p.marks p.time p.floor) m ≡ ready p m
unfolding ready met lapsed
ready-asking p m = refl

-- and the checks for neither high nor barrier
pub checks-asking : (own time high count : ℕ) (marks barrier slots : List ℕ) (floor : ℕ) (m : Message)
    → message_checks (record_of (parts own time 0 count marks [] slots floor)) m
    ≡ message_checks (record_of (parts own time high count marks barrier slots floor)) m
unfolding message_checks too_far_ahead lapsed met ready
checks-asking own time high count marks barrier slots floor m = refl

-- ---- all but the last

module _ (own time : ℕ) (marks slots : List ℕ) (count floor : ℕ) (m : Message) where
  abbrev panel : Panel
  panel = record_of (parts own time 0 count marks [] slots floor)

  abbrev pub table : List (Bool × ℕ)
  table = early_checks panel m

  abbrev mark : ℕ
  mark = get_or marks m.source 0

  -- ---- 20

  pub number_own : m.source ≡ own → 20 ≡ first_of table
  unfolding message_checks
  number_own e = stop table 0 refl (eq-eqb m.source own e)

  pub past_own : (m.source ≡ own → ⊥) → Past table 1
  unfolding message_checks
  past_own other = pass table 0 refl (ne_eqb m.source own other)

  -- ---- 21

  pub number-lapsed : Past table 1 → has_lapsed time floor m.deadline ≡ true → 21 ≡ first_of table
  unfolding message_checks lapsed
  number-lapsed past late = stop table 1 past late

  pub past_lapsed : Past table 1 → has_lapsed time floor m.deadline ≡ false → Past table 2
  unfolding message_checks lapsed
  past_lapsed past live = pass table 1 past live

  -- ---- 32

  pub number_far : Past table 2 → time + farthest_ahead < m.deadline → 32 ≡ first_of table
  unfolding message_checks too_far_ahead
  number_far past lt = stop table 2 past (lt-ltb (time + farthest_ahead) m.deadline lt)

  pub past_far : Past table 2 → m.deadline ≤ time + farthest_ahead → Past table 3
  unfolding message_checks too_far_ahead
  past_far past near = pass table 2 past (le-ltb (time + farthest_ahead) m.deadline near)

  -- ---- 22, in two ways

  pub number_reached : Past table 3 → m.deadline ≤ mark → 22 ≡ first_of table
  unfolding message_checks
  number_reached past le = stop table 3 past (rw (le-leb m.deadline mark le))

  pub number_waiting : Past table 3 → mark < m.deadline → is_waiting m panel.waiting ≡ true → 22 ≡ first_of table
  unfolding message_checks
  number_waiting past above e = stop table 3 past (rw (lt-leb m.deadline mark above) e)

  pub number-none : Past table 3 → mark < m.deadline → is_waiting m panel.waiting ≡ false → 0 ≡ first_of table
  unfolding message_checks first_of
  number-none past above new = sym (pass table 3 past (rw (lt-leb m.deadline mark above) new))

-- ---- the last, 23

pub full_room : (waiting : ℕ) (is_ready : Bool) → waiting < 32 → 0 ≡ full_number waiting is_ready
full_room waiting is_ready lt = rw (lt-leb 32 waiting lt)

and-false : (a : Bool) → (a && false) ≡ false
and-false true = refl
and-false false = refl

pub full_ready : (waiting : ℕ) (is_ready : Bool) → is_ready ≡ true → 0 ≡ full_number waiting is_ready
full_ready waiting is_ready e = rw (e, and-false (leb 32 waiting))

pub full_unready : (waiting : ℕ) (is_ready : Bool) → 32 ≤ waiting → is_ready ≡ false → 23 ≡ full_number waiting is_ready
full_unready waiting is_ready le e = rw (e, le-leb 32 waiting le)

module _ (p : Panel) (m : Message) where
  -- one before it applies
  pub before_last : (first_of (early_checks p m) ≡ 0 → ⊥) → first_of (early_checks p m) ≡ first_of (message_checks p m)
  before_last refuses = first_of_take (message_checks p m) 4 refuses

  -- none before it does
  pub at_last : first_of (early_checks p m) ≡ 0 → first_of (message_checks p m) ≡ full_number (length p.waiting) (ready p m)
  unfolding message_checks first_of each_number
  at_last passed = Past-take (message_checks p m) 4 refl passed
