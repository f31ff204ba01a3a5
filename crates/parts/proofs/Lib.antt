-- Laws of what the calls have in common: refusal 26, and their answers.
pub mod Joining
pub mod Refusing
pub mod Answering
