-- The checks of a send.
pub mod Checks
