use Rattle.std.proofs.Common.{◌-◌, length}
use Rattle.lent.specs.Record.{parts_of, record_of, SameState, SameWaiting}
use Rattle.listing.specs.Step.{state_at}
use Rattle.listing_parts.proofs.Filling.{Filling}
use Rattle.listing_parts.proofs.fixed.list_part.Given as goal

abbrev pub invariant-steps : goal.invariant-steps
invariant-steps g l =
    Filling l.bundle (state_at (record_of (parts_of l.initial.state l.initial.list)) l.initial.listing)
    (record_of (parts_of l.state l.list)) l.listing l.text.bytes
    × (SameState l.initial.state l.state × SameWaiting l.initial.list l.list)

abbrev pub decreases-steps : goal.decreases-steps
decreases-steps g l = length l.bundle - l.listing.place
