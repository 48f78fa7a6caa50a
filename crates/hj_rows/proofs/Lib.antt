mod InPlace
pub mod Probes
mod PutAgain
pub mod Rows
pub mod SortedProbes
