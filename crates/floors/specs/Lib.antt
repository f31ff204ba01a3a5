-- Document 02, W-207: what is shown of the floor and of set-back calls beside demand 3.
pub mod Floors
