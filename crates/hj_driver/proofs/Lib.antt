pub mod Arrivals
pub mod ComingOut
pub mod Logs
pub mod MayClose
pub mod Standing
pub mod States
