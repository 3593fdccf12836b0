-- The laws of sessions: whole sending, what the store keeps, the lag queue.
pub mod Basics
pub mod Sending
pub mod Writing
pub mod Sender
pub mod Summing
pub mod Longest
pub mod Storable
pub mod Keeping
pub mod Lagging
