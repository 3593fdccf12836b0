pub mod Entries
pub mod Row
pub mod Store
pub mod TwoActives
pub mod Lists
