pub mod History
pub mod Counts
pub mod Claim
pub mod Figures
