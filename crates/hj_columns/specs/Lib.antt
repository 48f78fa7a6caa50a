pub mod Columns
pub mod Masks
pub mod Probing
pub mod Store
