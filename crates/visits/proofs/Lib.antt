-- The visits of the test for ready, counted; what a trace tells of the receive of the same frame; and the case of traces.
pub mod Visiting
pub mod Tracing
pub mod TraceCase
