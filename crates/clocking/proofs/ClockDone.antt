-- A clock reading that is not turned down: document 01's clock. Assumes nothing.
use mathlib.Core.Path.{◌≡◌, refl, sym, ap, ◌∙◌}
use mathlib.Core.Bool.{Bool}
use mathlib.Core.List.{List, []}
use Prim.Native.Nat.{ℕ}
use lib.ListN.{length}
use Rattle.numbers.proofs.Over.{over-nil}
use Rattle.frame.specs.Message.{Message}
use Rattle.frame.specs.Refusal.{first_of}
use Rattle.rules.specs.Handing.{log_records}
use Rattle.rules.specs.Settling.{settle, with_waiting}
use Rattle.rules.specs.Calls.{with_time, drop_lapsed, clocking}
use Rattle.rules.specs.Panel.{Panel as Record}
use Rattle.rules.specs.Refusals.{broken, clock_checks}
use Rattle.rules.specs.Results.{Promised, clock}
use Rattle.slots.specs.Alive.{Alive}
use Rattle.slots.specs.declared.Places.{Places}
use Rattle.settling.specs.Record.{Settling}
use Rattle.settling.specs.Record.{Stage, stage, panel_at}
use Rattle.lent.specs.Record.{Parts, record_of}
use Rattle.parts.specs.Record.{SettlesSlots}
use Rattle.parts.proofs.Answering.{settled_promised}
use Rattle.clocking.specs.Checks.{clock_checks_on}

pub clock_checks-on : (p : Record) (time : ℕ) (output : List ℕ) → clock_checks_on (broken p) (length output) time p.time ≡ clock_checks p time output
unfolding clock_checks
clock_checks-on p time output = refl

-- the number of the check is that of the first check of a clock call that applies
pub numbered : (p : Parts) (reading : ℕ) (output : List ℕ) (b : Bool) (number : ℕ) → b ≡ broken (record_of p)
    → number ≡ first_of (clock_checks_on b (length output) reading p.time)
    → number ≡ first_of (clock_checks (record_of p) reading output)
numbered p reading output b number is n =
    n
    ∙ ap (λ (b : Bool). first_of (clock_checks_on b (length output) reading p.time)) is
    ∙ ap first_of (clock_checks-on (record_of p) reading output)

module _ (p : Parts) (time : ℕ) (output : List ℕ) (kept : Places) (alive : Alive p.slots p.count time p.floor kept) where
  abbrev given : Record
  given = record_of p

  -- the record with its time set and the lapsed dropped, as it begins to settle
  abbrev pub begun : Settling
  begun = record { own = p.own; time = time; high = p.high; waiting = kept.count; handed = 0; floor = p.floor }

  abbrev pub begun_stage : Stage
  begun_stage = stage begun kept.slots p.marks p.barrier output

  panel_begun : panel_at p.slots begun_stage ≡ drop_lapsed (with_time given time)
  panel_begun = ap (λ (ms : List Message). with_waiting (with_time given time) ms) (alive.messages (with_time given time) refl refl)

  pub clocked_done : (slots' : List ℕ) (after : Stage) (back : Record) → first_of (clock_checks given time output) ≡ 0
      → SettlesSlots p.slots begun_stage slots' after → back ≡ (settle (panel_at p.slots begun_stage)).panel
      → Promised given (clock time output)
      (record { number = 0; panel = back; count = after.left.handed; output = after.output; frame_length = 0; buffer = [] })
  unfolding clocking log_records
  clocked_done slots' after back passed settles e =
      settled_promised given (clock time output) passed p.slots [] begun_stage slots' after settles
      (ap settle (sym panel_begun))
      (sym (over-nil output 0))
      refl
      refl
      back
      []
      e
      (sym (over-nil [] 0))
