-- `log_records::log_payload` meets its contract: the payload of a whole log record lies behind its length. Assumes nothing.
use mathlib.Core.Path.{◌≡◌, refl, sym, ap, ◌∙◌}
use mathlib.Core.Bool.{true}
use Prim.Native.Nat.{ℕ, ◌+◌, ◌-◌}
use native.Mathlib.Omega.{arith}
use lib.ListN.{take, drop, get_or}
use Rattle.rules.specs.Sizes.{width}
use Rattle.log_records.specs.LogRecords.{log_record_at, is_whole, payload_in}
use Rattle.log_records.proofs.Places.{whole, payload_whole, place_whole, payload_none, place_none}
use Rattle.log_records.proofs.log_payload.Goals as goal

pub returns-in_default : goal.returns-in_default
returns-in_default c =
    let a = c.args in
    let none = c.in_default.ensures in
    record {
      bytes = rw (payload_none a.log.now a.index none) refl;
      block = refl;
      place = omega (arith, place_none a.log.now a.index none);
    }

pub returns : goal.returns
returns c =
    let a = c.args in
    let w = c.in-Some.ensures in
    let bs = c.in-Some.record.now in
    let size : 10 + c.from-end.result - 10 ≡ get_or bs (1 + width) 0 = omega (arith, c.from-end.ensures) in
    let is-whole : is_whole (log_record_at a.log.now a.index) ≡ true = rw (← w.bytes) (whole bs w.size w.few) in
    record {
      bytes = ap (λ (n : ℕ). take n (drop (2 + width) bs)) size ∙ sym (payload_whole bs w.size w.few) ∙ ap payload_in w.bytes;
      block = w.block;
      place = omega (arith, w.place, place_whole a.log.now a.index is-whole);
    }
