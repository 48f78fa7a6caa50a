pub mod Field
pub mod Held
pub mod Magnitude
pub mod Number
pub mod Row
pub mod Schema
pub mod StoredFields
