-- Little-endian numbers, parsers, frames as values, the numbers that stand for kinds and refusals, how frames are read and written, and how many bytes that takes.
pub mod Bytes
pub mod Parse
pub mod Frame
pub mod FrameKind
pub mod ChangeKind
pub mod PartByte
pub mod ReasonByte
pub mod Refusal
pub mod Reading
pub mod Writing
pub mod Sizes
