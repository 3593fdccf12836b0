-- What is told of a place of the store.
pub mod Telling
