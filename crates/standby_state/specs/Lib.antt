pub mod Answers
pub mod Exact
pub mod Outcomes
pub mod Lent
