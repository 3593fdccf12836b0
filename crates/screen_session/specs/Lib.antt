-- What is shown of a place of the store.
pub mod Shown
