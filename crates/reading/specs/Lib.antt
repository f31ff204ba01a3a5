-- What `read` and `payload` answer.
pub mod Answer
