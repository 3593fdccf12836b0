-- Which copy takes over.
pub mod Choice
