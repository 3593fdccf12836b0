-- What a call does to the words of a place.
pub mod Calls
-- What recording a message answers.
pub mod Recording
