-- What an import answers across the boundary.
pub mod Answering
