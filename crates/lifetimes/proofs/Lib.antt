-- Laws of the lifetime of a send.
pub mod Lifetime
