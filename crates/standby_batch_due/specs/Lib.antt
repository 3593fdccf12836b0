pub mod DueBatch
