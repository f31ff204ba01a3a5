-- What a send answers.
pub mod SendDone
