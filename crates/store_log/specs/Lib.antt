-- The log of one session in two slices, and what reading it answers.
pub mod LogWord
pub mod Log
pub mod Steps
