pub mod Examples
pub mod Largest
pub mod Joins
pub mod Steps
pub mod Claim
pub mod Theorems
pub mod Figures
