-- The lines that the program "list" prints.
pub mod Lines
