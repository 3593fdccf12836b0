-- Theorems on the choice, and computed examples.
pub mod Choice
pub mod Keys
pub mod Left
pub mod Examples
