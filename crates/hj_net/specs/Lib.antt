pub mod Address
pub mod Answers
pub mod Channel
pub mod Collected
pub mod RealOutside
pub mod RealSink
pub mod RoleStream
pub mod RoleStreams
