-- Old panels and new ones on the same calls, step by step and after every list; and what comes of removing by the marks.
pub mod BesideOld
pub mod BesideCalls
pub mod Barriers
pub mod ByTheMark
