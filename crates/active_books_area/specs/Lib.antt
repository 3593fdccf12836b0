pub mod BookWord
pub mod Words
pub mod Parts
