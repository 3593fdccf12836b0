-- What a screen shows.
pub mod Columns
pub mod SessionText
pub mod RefusalText
pub mod FrameText
