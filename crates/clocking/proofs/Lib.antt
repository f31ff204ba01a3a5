-- Laws of a clock call that is not turned down.
pub mod ClockDone
