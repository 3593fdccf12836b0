pub mod TwoActives
pub mod Entries
