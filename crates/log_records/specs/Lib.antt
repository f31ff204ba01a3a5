-- The definitions that the promises on log records cite.
pub mod LogRecords
