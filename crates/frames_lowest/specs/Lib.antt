-- One line's lowest message on hand.
pub mod Telling
