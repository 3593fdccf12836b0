-- What the choice promises.
pub mod Choice
