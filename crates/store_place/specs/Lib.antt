-- One place of the store: what its words and bytes mean, and what an operation leaves alone.
pub mod PlaceWord
pub mod PlaceByte
pub mod Place
pub mod Only
pub mod Keys
