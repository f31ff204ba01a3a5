-- The waiting list in slots, and the slots of messages alive.
pub mod Slots
pub mod Alive
