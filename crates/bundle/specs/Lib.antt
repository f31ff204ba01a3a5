-- The definitions that the bundle reader's promises cite.
pub mod Bundle
