pub mod Feeds
pub mod Tracing
pub mod Writing
