-- Laws of slots that change: bytes put into them, frames that move up, and the messages that they then hold.
pub mod Writing
pub mod Gathering
pub mod Kept
