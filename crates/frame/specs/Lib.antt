-- Document 01, "The frame", in its order: messages, their frames, what bytes read as, and which messages have a frame.
pub mod Message
pub mod Frame
pub mod Refusal
pub mod Reading
pub mod Readable
