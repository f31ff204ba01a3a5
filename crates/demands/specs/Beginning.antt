-- What lists of calls begin with: for a panel's number, the record that a caller of a fresh function learns of.
use Rattle.std.specs.Prelude.{◌≤◌, ◌≡◌}
use borrow.Fn.Kinds.{Dens, res_t, ended_of}
use contract.Lifetimes.{Lfts}
use denote.Triple.Clauses.{AtExit}
use Rattle.rules.specs.Panel.{fresh}
use Rattle.lent.specs.Record.{parts, record_of}
use Rattle.panel.specs.Record.{parts_of}
use Rattle.exports.proofs.panel_fresh_parts.Kinds as in_place
use Rattle.exports.proofs.panel_fresh_parts.Reads as in_place_reads
use Rattle.panel.proofs.panel_fresh.Kinds as by_value
use Rattle.panel.proofs.panel_fresh.Reads as by-value-reads

-- in place: the record in the lent parts as the call ends
abbrev pub BeginsInPlace : Type 0
BeginsInPlace =
    (κs : Lfts 8) (given : Dens κs in_place.ps) (answer : (res_t in_place.r κs).Denot) (ended : AtExit (ended_of 8 in_place.ps in_place.r) κs)
    → in_place_reads.Learnt κs given answer ended
    → given.0 ≤ 63
    → let (_, (own, (time, (high, (count, (marks, (barrier, (slots, (floor, _))))))))) = ended in
    record_of (parts own.now time.now high.now count.now marks.now barrier.now slots.now floor.now) ≡ fresh given.0

-- by value: that of the struct in the answer
abbrev pub BeginsByValue : Type 0
BeginsByValue =
    (κs : Lfts 0) (given : Dens κs by_value.ps) (answer : (res_t by_value.r κs).Denot) (ended : AtExit (ended_of 0 by_value.ps by_value.r) κs)
    → by-value-reads.Learnt κs given answer ended
    → given.0 ≤ 63
    → record_of (parts_of answer.panel) ≡ fresh given.0
