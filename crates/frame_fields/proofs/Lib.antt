pub mod Keys
pub mod Bytes
