-- The steps of a listing, and what is shown of the whole.
pub mod Stepping
pub mod Theorems
