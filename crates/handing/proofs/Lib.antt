-- Laws of handing: the fields of a log record, and the part of the output that it stands in.
pub mod LogRecord
pub mod OutputPart
pub mod Raising
