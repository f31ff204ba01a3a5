-- Laws of widening.
pub mod Widened
