-- The demands, kept by the code.
pub mod Following
pub mod Arriving
pub mod Example
pub mod ArrivalExample
pub mod Calls
pub mod Demands
