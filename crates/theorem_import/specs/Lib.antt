-- What holds of a session that was imported.
pub mod Imported
