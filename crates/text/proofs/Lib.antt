-- The laws of text and of text put into a buffer.
pub mod Puts
pub mod Decimal
pub mod Hexadecimal
