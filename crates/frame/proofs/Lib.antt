-- Laws of the definitions, for every width of a deadline. `Theorems` holds what is shown of frames as a whole.
pub mod Conjunction
pub mod FirstOf
pub mod Refusals
pub mod EachNumber
pub mod Entries
pub mod Panels
pub mod Readable
pub mod Widths
pub mod Passed
pub mod Places
pub mod Theorems
