-- Two actives, one standby: the theorem; the witness for Bind, computed; what a lower frame is answered.
pub mod TwoActives
pub mod Witness
pub mod Lower
