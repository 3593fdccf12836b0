pub mod Picking
pub mod Together
