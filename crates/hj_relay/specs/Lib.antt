pub mod Fits
pub mod Relay
pub mod Rows
pub mod Twice
