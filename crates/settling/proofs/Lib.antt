-- Laws of settling: a place that leaves the list, and a step of settling.
pub mod Leaving
pub mod Stages
