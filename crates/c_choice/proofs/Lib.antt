-- The answer as a code.
pub mod Laws
