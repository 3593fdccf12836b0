-- `Lists` has the laws of lists that count up, `Lifting` says of the store what is said of one place, `Reading` what is read of one, `Marking` the durable mark,
-- `Size` how much memory is lent at most.
pub mod Lists
pub mod Lifting
pub mod Reading
pub mod Marking
pub mod Ruling
pub mod Holding
pub mod Size
pub mod Sameness
