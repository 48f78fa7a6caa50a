pub mod Rounds
pub mod SilentSide
pub mod TwoRows
