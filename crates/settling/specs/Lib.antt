-- The record while it settles.
pub mod Record
