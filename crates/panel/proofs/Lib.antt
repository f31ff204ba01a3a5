-- Laws of the struct, and of the number of a fresh panel.
pub mod GivenBack
pub mod Fresh
