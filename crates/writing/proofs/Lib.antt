-- Laws of writing. `Theorems` holds what is shown of it as a whole.
pub mod Entries
pub mod Putting
pub mod Tests
pub mod Written
pub mod Theorems
