-- The laws of frames: what is written is read back, and what is read would be written so.
pub mod Sendable
pub mod Texts
pub mod Le
pub mod Back
pub mod RoundTrip
pub mod Canon
pub mod SoundChange
pub mod Sound
pub mod Sizes
pub mod Grow
pub mod Runs
pub mod Written
pub mod Points
pub mod Wider
