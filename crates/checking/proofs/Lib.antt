-- Laws of the checks of a receive.
pub mod MessageChecks
pub mod Checking
