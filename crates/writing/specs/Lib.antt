-- The definitions that the promises of writing cite.
pub mod Written
