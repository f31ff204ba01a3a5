use Rattle.std.proofs.Common.{◌-◌, length}
use Rattle.lent.specs.Record.{parts_of, record_of, SameState, SameWaiting}
use Rattle.listing.specs.Step.{state_at}
use Rattle.listing_parts.proofs.FillingLent.{FillingLent}
use Rattle.listing_parts.proofs.list_part_lent.Given as goal

abbrev pub invariant-steps : goal.invariant-steps
invariant-steps l =
    FillingLent l.bundle (state_at (record_of (parts_of l.initial.state l.initial.list)) l.initial.listing) l.fn.text
    (record_of (parts_of l.state l.list)) l.listing l.text
    × (SameState l.initial.state l.state × SameWaiting l.initial.list l.list)

abbrev pub decreases-steps : goal.decreases-steps
decreases-steps l = length l.bundle - l.listing.place
