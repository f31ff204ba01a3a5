-- Laws of a trace: what its functions answer is what it shows.
pub mod Showing
