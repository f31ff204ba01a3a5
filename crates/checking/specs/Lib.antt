-- The checks before those of the message.
pub mod Checks
