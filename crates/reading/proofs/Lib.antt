-- What is answered for bytes that pass, and the entries laid at their panels.
pub mod Answers
pub mod Filling
