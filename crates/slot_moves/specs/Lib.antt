-- Frames that move up.
pub mod Moves
