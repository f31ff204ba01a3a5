-- The checks of a clock call.
pub mod Checks
