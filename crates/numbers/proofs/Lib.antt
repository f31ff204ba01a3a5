-- Laws of numbers in bytes, for every width, of bytes put into a buffer, and of the ones of a mask.
pub mod BigEndian
pub mod Bytes
pub mod NumberAt
pub mod Over
pub mod Ones
