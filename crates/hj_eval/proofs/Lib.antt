mod Comparing
pub mod Filtering
mod Testing
pub mod Planning
mod Totals
