-- Laws of a receive: taking a message, and its answer.
pub mod Taking
pub mod ReceiveDone
