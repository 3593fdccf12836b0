-- What the store's functions for C and Rust answer and leave.
pub mod Total
