pub mod Feeding
pub mod Taken
pub mod Traced
pub mod Underway
