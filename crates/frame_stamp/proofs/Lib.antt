-- `Plain` walks over printable bytes, `Digits` over digits, `Places` reads a stamp's bytes place by place, `Days` has the days of a month, `Versions` what a version takes.
pub mod Plain
pub mod Digits
pub mod Places
pub mod Days
pub mod Versions
