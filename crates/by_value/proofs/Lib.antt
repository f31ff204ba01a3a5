-- A law of the calls that write no frame.
pub mod Unframed
