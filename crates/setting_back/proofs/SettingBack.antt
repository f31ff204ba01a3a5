-- A set-back call, turned down and done: document 02's. Assumes nothing.
use Prim.Native.Nat.{ℕ, min}
use mathlib.Core.Path.{◌≡◌, refl}
use mathlib.Core.Bool.{true, false}
use mathlib.Core.List.{[]}
use Rattle.numbers.proofs.Over.{over-nil}
use Rattle.frame.specs.Refusal.{first_of}
use Rattle.rules.specs.Handing.{log_records}
use Rattle.rules.specs.Calls.{setting_back}
use Rattle.rules.specs.Refusals.{broken, set_back_checks}
use Rattle.rules.specs.Results.{set_back, done, unless, defined}
use Rattle.lent.specs.Record.{Parts, parts, record_of}
use Rattle.std.specs.Prelude.{Err}
use Rattle.frame.specs.declared.refusal.Refusal.TheVariants as refusals
use Rattle.parts.specs.Record.{PromisedInPlace}
use Rattle.parts.proofs.Answering.{refusal_in_place}
use Rattle.setting_back.specs.Answer.{answer_of}

module _ (p : Parts) (reading : ℕ) where
  -- the parts with another time
  abbrev pub with_time_in : ℕ → Parts
  with_time_in time = parts p.own time p.high p.count p.marks p.barrier p.slots p.floor

  pub set_back_refused : broken (record_of p) ≡ true → PromisedInPlace p (set_back reading) (answer_of 26) p [] []
  unfolding set_back_checks first_of
  set_back_refused e = refusal_in_place p (set_back reading) (Err refusals.RecordBroken) refusals.RecordBroken refl (rw e)

  pub set_back_done : broken (record_of p) ≡ false → (time : ℕ) → time ≡ min p.time reading
      → PromisedInPlace p (set_back reading) (answer_of 0) (with_time_in time) [] []
  unfolding defined unless done setting_back set_back_checks first_of log_records
  set_back_done e time lower = (rw (lower, e, over-nil), λ refuses. absurd (refuses refl))
