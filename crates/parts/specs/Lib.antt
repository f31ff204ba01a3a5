-- What the calls answer, what a call in place promises, and what settling the slots ensures.
pub mod Answers
pub mod Record
pub mod Joined
