pub mod Storing
pub mod Calling
pub mod Giving
