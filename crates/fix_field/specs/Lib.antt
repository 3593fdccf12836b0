-- What each step of the reader answers about one field of a file.
pub mod Reading
