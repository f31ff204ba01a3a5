-- The record that the deadline of a send is taken from.
pub mod Record
