pub mod Naming
pub mod Fitting
pub mod Rows
pub mod Still
pub mod Doing
pub mod Lowest
pub mod Called
