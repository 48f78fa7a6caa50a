pub mod Running
pub mod Showing
pub mod ShowingRaw
