-- The definitions at work, and the laws of the lease: what a list of calls comes to, what never falls.
pub mod Examples
pub mod History
pub mod Rising
