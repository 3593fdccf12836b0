-- What writing a text leaves and answers.
pub mod Adding
pub mod Told
