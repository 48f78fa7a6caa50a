mod Lookups
pub mod Sending
