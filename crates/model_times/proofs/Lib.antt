-- Theorems on stamps as numbers.
pub mod Cycle
pub mod Days
pub mod Calendar
pub mod Numbers
pub mod Forms
pub mod Texts
pub mod Stamps
pub mod Shortest
pub mod Theorems
pub mod Order
pub mod Points
