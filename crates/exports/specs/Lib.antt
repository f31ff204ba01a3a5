-- What fresh does in place.
pub mod Fresh
