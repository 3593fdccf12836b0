-- The store's areas as a list of places.
pub mod StoreWord
pub mod Areas
pub mod Same
pub mod Over
