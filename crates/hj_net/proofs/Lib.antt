pub mod HeldChannel
pub mod PortWord
pub mod Spelled
