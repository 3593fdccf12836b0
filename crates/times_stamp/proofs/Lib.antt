-- What callers use of times and texts.
pub mod Laws
