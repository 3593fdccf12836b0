pub mod Numbers
pub mod Measuring
pub mod Putting
pub mod Sending
pub mod Cutting
pub mod Counting
