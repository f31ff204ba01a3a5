-- Numbers in bytes, and bytes put into a buffer.
pub mod Numbers
pub mod Buffer
