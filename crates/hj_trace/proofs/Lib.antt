pub mod Commas
mod Numbers
mod Partners
pub mod Plays
mod Ports
pub mod Readings
pub mod Reported
pub mod Streams
