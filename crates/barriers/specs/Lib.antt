-- Document 02, W-204: shorter barriers beside the old rule.
pub mod Barriers
