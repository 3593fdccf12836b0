-- Theorems on what a screen shows.
pub mod Widths
