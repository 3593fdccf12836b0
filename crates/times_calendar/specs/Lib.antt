-- The rule of the table of years, and what the functions on days give.
pub mod Table
pub mod Dates
