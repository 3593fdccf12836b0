-- What the functions over two stores answer.
pub mod Ahead
