-- The laws of a bundle's steps, and what they say of a run of frames.
pub mod Steps
pub mod Theorems
