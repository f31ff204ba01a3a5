-- Laws of the number and the record of a fresh panel. Assumes nothing.
use mathlib.Core.Path.{◌≡◌}
use Prim.Native.Nat.{ℕ, ◌≤◌, ◌<◌}
use borrow.Author.Tests.{lt-ltb, le-ltb}
use Rattle.frame.specs.Refusal.{first_of}
use Rattle.rules.specs.Panel.{fresh}
use Rattle.rules.specs.Refusals.{fresh_number, fresh_record}

module _ (own : ℕ) where
  pub fresh_number_above : 63 < own → fresh_number own ≡ 11
  unfolding fresh_number first_of
  fresh_number_above above = simp (lt-ltb 63 own above)

  pub fresh_number_within : own ≤ 63 → fresh_number own ≡ 0
  unfolding fresh_number first_of
  fresh_number_within within = simp (le-ltb 63 own within)

  pub fresh_record_above : 63 < own → fresh_record own ≡ fresh 0
  unfolding fresh_record
  fresh_record_above above = simp (lt-ltb 63 own above)

  pub fresh_record_within : own ≤ 63 → fresh_record own ≡ fresh own
  unfolding fresh_record
  fresh_record_within within = simp (le-ltb 63 own within)
