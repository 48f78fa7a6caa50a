pub mod Streams
pub mod Summary
