-- The lowest message on hand of a session in the store.
pub mod Lowest
