pub mod Collector
pub mod Due
pub mod Giving
pub mod Least
pub mod Marks
pub mod Reach
pub mod StandsFor
