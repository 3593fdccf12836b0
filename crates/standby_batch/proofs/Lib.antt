pub mod Runs
pub mod Passing
pub mod Laws
pub mod Refusals
