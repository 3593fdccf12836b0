-- What is shown, as one number and the area.
pub mod Telling
