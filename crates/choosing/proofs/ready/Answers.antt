-- `choosing::ready` meets its contract. Its loop's invariant is `MetBelow`: the entries of the panels so far are met, and were visited. Assumes
-- nothing.
use mathlib.Core.Path.{sym, ◌∙◌, subst}
use Prim.Native.Nat.{ℕ, ◌^◌, ◌<◌}
use native.Mathlib.Omega.{arith}
use borrow.Author.Rules.{rules}
use Rattle.choosing.proofs.Turns.{MetBelow, met_start, met_room, end_ready, end_visits, stop_ready, stop_visits, turn_on}
use Rattle.choosing.proofs.ready.Goals as goal

pub loop-bits-init : goal.loop-bits-init
loop-bits-init c =
    let a = c.args in
    subst (λ (bits : ℕ). MetBelow a.message.frame.now a.marks.now a.time a.floor bits 0) (sym c.requires)
    (met_start a.message.frame.now a.marks.now a.time a.floor (subst (λ (bits : ℕ). bits < 2 ^ 64) c.requires (omega arith)))

pub overflow_mul-visited : goal.overflow_mul-visited
overflow_mul-visited c = search (rules, met_room c.loop-bits.invariant c.loop-bits-test.true c.args.message.reads)

pub overflow_add-visited : goal.overflow_add-visited
overflow_add-visited c = search (rules, met_room c.loop-bits.invariant c.loop-bits-test.true c.args.message.reads)

pub number_at-entry-requires : goal.number_at-entry-requires
number_at-entry-requires c = omega (arith, met_room c.loop-bits.invariant c.loop-bits-test.true c.args.message.reads)

pub overflow_add-visited-in-loop-bits : goal.overflow_add-visited-in-loop-bits
overflow_add-visited-in-loop-bits c = search (rules, met_room c.loop-bits.invariant c.loop-bits-test.true c.args.message.reads)

pub returns-then-not-is_met : goal.returns-then-not-is_met
returns-then-not-is_met c =
    let unmet = sym (rw c.number_at-entry.ensures.0 at c.is_met.ensures) ∙ c.if-not-is_met.true in
    record {
      ready_value = sym (stop_ready _ _ _ _ _ _ c.loop-bits.invariant c.loop-bits-test.true unmet);
      visited_value = stop_visits _ _ _ _ _ _ c.loop-bits.invariant c.loop-bits-test.true c.args.message.reads unmet;
    }

pub loop-bits-preserved : goal.loop-bits-preserved
loop-bits-preserved c =
    let met = sym (rw c.number_at-entry.ensures.0 at c.is_met.ensures) ∙ c.if-not-is_met.false in
    turn_on _ _ _ _ _ _ c.loop-bits.invariant c.loop-bits-test.true met

pub returns : goal.returns
returns c =
    record {
      ready_value = sym (end_ready _ _ _ _ _ _ c.loop-bits.invariant c.loop-bits-test.false);
      visited_value = end_visits _ _ _ _ _ _ c.loop-bits.invariant c.loop-bits-test.false c.args.message.reads;
    }
