-- Days by the calendar, the number of a stamp and the stamp of a number.
pub mod Days
pub mod Times
