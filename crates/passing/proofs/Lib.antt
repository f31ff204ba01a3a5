-- Laws of a barrier that is shortened by the entries of a frame, of a floor that rises by them, and of both.
pub mod Shortening
pub mod Rising
pub mod Passing
