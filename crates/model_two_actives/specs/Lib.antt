-- Two actives, one standby.
pub mod TwoActives
