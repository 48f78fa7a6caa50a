pub mod Giving
pub mod Stores
