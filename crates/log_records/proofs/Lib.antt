-- Where log records stand in a log, and that those a call wrote are read back.
pub mod Places
pub mod Theorems
