-- The answer of a set-back call.
pub mod Answer
