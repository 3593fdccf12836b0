-- `Seeking` has the search for a key, `Opening` the new session, `Promoting` the walk over all places, `Parts` what is read of one.
pub mod Seeking
pub mod Opening
pub mod Promoting
pub mod Parts
