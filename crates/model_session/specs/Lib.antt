-- The stored session and its changes, its summary, how it is sent whole, the lag queue.
pub mod Session
pub mod Summary
pub mod Whole
pub mod Sender
pub mod Lag
