pub mod State
pub mod Part
