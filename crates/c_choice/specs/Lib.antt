-- What the choice takes from C and returns.
pub mod Choosing
