pub mod Driver
pub mod Lane
pub mod Leaving
pub mod StandsFor
