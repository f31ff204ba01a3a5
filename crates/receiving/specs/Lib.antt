-- The steps of a receive.
pub mod Steps
