pub mod Ends
pub mod Total
pub mod Meaning
pub mod Whole
pub mod Turns
pub mod Following
pub mod Examples
