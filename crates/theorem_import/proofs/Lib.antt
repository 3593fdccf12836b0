-- An imported session is like any other.
pub mod Sending
