pub mod Little
pub mod Lists
pub mod Places
pub mod Runs
pub mod StandsAt
pub mod Writes
