-- The record in its parts, as it is lent.
pub mod Record
