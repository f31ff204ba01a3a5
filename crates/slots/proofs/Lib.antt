-- Laws of the slots, and of a walk over the entries of a frame, which `choosing` and `handing` take.
pub mod Framed
pub mod Held
pub mod Tests
pub mod Collecting
pub mod Kept
pub mod SetBits
pub mod Walk
