pub mod Values
pub mod Orders
pub mod Ranges
pub mod Reading
pub mod Arguments
pub mod Verbs
