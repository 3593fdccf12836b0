pub mod Planning
pub mod Framing
pub mod Sending
