-- An active's lease: what each call does, and what a list of calls comes to.
pub mod Lease
pub mod History
