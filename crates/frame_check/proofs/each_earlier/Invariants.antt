-- The entries so far passed, so those from the place on decide.
use Rattle.std.proofs.Common.{◌≡◌, ◌+◌, ◌-◌, ◌*◌}
use Rattle.numbers.specs.Numbers.{numbers_at}
use Rattle.frame.specs.Frame.{width_of}
use Rattle.frame.specs.Reading.{each_earlier}
use Rattle.frame_check.proofs.each_earlier.Given as goal

abbrev pub invariant-loop : goal.invariant-loop
invariant-loop l =
    let width = width_of l.version in
    record {
      place : l.at ≡ 14 + width + width * l.counter;
      decide :
          each_earlier l.deadline (numbers_at l.frame (14 + width) width l.count)
          ≡ each_earlier l.deadline (numbers_at l.frame l.at width (l.count - l.counter));
    }
