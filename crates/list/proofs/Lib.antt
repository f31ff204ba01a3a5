-- The laws of what is printed and of what is read.
pub mod Printing
pub mod Taken
