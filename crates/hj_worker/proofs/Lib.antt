pub mod Ending
pub mod Handling
pub mod Putting
pub mod Standings
pub mod Telling
