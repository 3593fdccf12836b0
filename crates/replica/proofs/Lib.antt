pub mod Making
pub mod Ending
