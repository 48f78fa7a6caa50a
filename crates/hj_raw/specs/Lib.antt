pub mod Drain
pub mod Ending
pub mod Items
pub mod Telling
pub mod Text
pub mod WaitingItems
