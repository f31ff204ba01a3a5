-- How a part of a listing is put, and what is shown of the parts.
pub mod Filling
pub mod FillingLent
pub mod Theorems
