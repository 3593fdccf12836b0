pub mod Copies
pub mod Numbers
pub mod Puts
