pub mod Encoded
pub mod Fits
