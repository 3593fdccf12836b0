-- What functions within this crate leave.
pub mod Starts
