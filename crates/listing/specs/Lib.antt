-- What the program "list" prints, and what one step of it promises.
pub mod Listing
pub mod Step
