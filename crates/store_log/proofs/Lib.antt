-- `Ring` has the laws of the byte ring, `Walk` those of the log that the entries hold, `Slots` those of the entry ring,
-- `Recording` what recording does, `Lawful` what every log satisfies, `Onto` that every such log is held by some areas.
pub mod Ring
pub mod Walk
pub mod Lawful
pub mod Slots
pub mod Recording
pub mod Onto
pub mod Forward
pub mod Reading
pub mod Hash
pub mod Spans
pub mod Summing
pub mod Turning
pub mod Examples
