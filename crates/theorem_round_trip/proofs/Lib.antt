pub mod Ranges
pub mod Survives
