pub mod Handled
pub mod Hands
pub mod Outgoing
pub mod Seen
pub mod Standing
pub mod Turning
