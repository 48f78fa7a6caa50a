mod Backwards
mod Cells
mod Covers
mod Lanes
pub mod Plain
mod Steps
