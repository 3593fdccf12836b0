-- What a list of calls comes to.
pub mod Histories
