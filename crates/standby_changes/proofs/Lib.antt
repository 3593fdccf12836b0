pub mod Held
pub mod Steps
pub mod Loops
pub mod Told
