-- `Table` has what follows from the table's rule, `Bounds` how many days stand before a year.
pub mod Table
pub mod Bounds
pub mod Cycle
pub mod Months
