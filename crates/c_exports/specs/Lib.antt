pub mod Returned
pub mod Exports
pub mod Queues
pub mod Sendings
