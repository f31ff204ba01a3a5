-- What one part of a listing promises.
pub mod Part
