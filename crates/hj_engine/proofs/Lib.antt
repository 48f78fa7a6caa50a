pub mod Beginning
pub mod Begins
pub mod ByRaw
pub mod ByRun
pub mod Planned
pub mod Ran
pub mod Refused
