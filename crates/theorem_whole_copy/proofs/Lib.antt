pub mod Entries
pub mod Model
pub mod Demand3
pub mod OneHandle
pub mod Instance
pub mod Lists
pub mod Lines
