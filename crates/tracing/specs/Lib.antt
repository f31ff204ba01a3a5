-- What a trace answers.
pub mod Shown
