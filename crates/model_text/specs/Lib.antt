-- UTF-8 (RFC 3629), printable texts (marks and keys), the calendar, the protocol's versions, time stamps.
pub mod Utf8
pub mod Printable
pub mod Calendar
pub mod Version
pub mod Stamp
pub mod Hex
pub mod Lines
