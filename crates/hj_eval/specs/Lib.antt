pub mod Filter
pub mod Holds
pub mod Plan
pub mod Tests
pub mod Values
