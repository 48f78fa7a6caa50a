pub mod Due
pub mod Emissions
pub mod Following
pub mod Giving
mod InOrder
mod LeastMarks
mod MarkOrder
mod PairLists
mod Replacing
pub mod Shuffles
mod Soonest
