-- `Head` has the laws of the words before the first place, `Marking` those of marking sessions, `Turns` those of the loop over the
-- pending commits, `Due` those of the tests.
pub mod Head
pub mod Marking
pub mod Turns
pub mod Due
