-- Lists of calls in a farm: those of the module itself, and those of other panels.
pub mod Runs
pub mod Functions
pub mod Beginning
pub mod Lists
