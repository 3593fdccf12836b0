-- `Header` names a place's first words, `Fields` has the laws of parts of a list.
pub mod Header
pub mod Fields
pub mod Texts
pub mod Changes
pub mod Logging
pub mod Promotion
pub mod Keys
pub mod Messages
pub mod Holding
pub mod Suiting
