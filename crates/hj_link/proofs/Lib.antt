pub mod Flows
pub mod Held
pub mod Journals
pub mod Looking
pub mod Moves
pub mod Opposites
pub mod Seats
