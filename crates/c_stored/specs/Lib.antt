-- What is told of a store: the place of a key, one message.
pub mod Stored
