-- The record that the struct holds.
pub mod Record
