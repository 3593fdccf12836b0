-- `Scan` is about bytes, `Pieces` about one field, `Tags` about its tag.
pub mod Scan
pub mod Pieces
pub mod Tags
