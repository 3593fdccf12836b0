-- `Laws` is what callers may use of texts, stamps, marks and keys, and `Agree` the theorem that the two definitions of UTF-8 agree.
-- `Tables` and `Formed` have the rules of UTF-8's test, `Form` those of a stamp's form, `Points` the tables of examples.
-- `HexBack` says that hexadecimal lines are read back as they were written, and the other way.
-- `Split` says that an input read in pieces gives the lines of the whole.
pub mod Tables
pub mod Formed
pub mod Agree
pub mod Form
pub mod Laws
pub mod Points
pub mod HexBack
pub mod Split
