-- Keys, numbers and the two loops, fingerprints.
pub mod Keys
pub mod Numbers
pub mod Prints
