-- The laws of the lines.
pub mod Lines
pub mod LinesLent
