-- What the functions over a store's sessions answer and leave.
pub mod Answers
