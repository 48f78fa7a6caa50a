pub mod Flow
pub mod Halves
pub mod Looks
pub mod Rule
pub mod Seen
pub mod Steps
pub mod Words
