-- Laws of the choice: the first among messages looked at, and the messages in the slots listed.
pub mod ChoiceUpwards
pub mod Choosing
pub mod Holding
mod Turns
