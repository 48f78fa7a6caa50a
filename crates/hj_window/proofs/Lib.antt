mod SideLemmas
pub mod Order
mod Merging
mod Finding
mod Arriving
