-- Document 02, W-202: which entries the test for ready visits, what a trace shows; and cases of traces.
pub mod Visiting
pub mod TraceCases
