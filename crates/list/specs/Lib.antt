-- What the program "list" may write.
pub mod Written
