pub mod Laws
mod Points
