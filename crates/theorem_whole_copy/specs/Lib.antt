pub mod Demand
pub mod OneHandle
pub mod Entries
pub mod Lines
