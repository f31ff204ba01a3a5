-- Laws of a fresh panel.
pub mod Fresh
