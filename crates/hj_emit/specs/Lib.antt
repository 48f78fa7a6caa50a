pub mod Line
pub mod Cells
