-- The choice among waiting messages.
pub mod Choice
