pub mod Crew
pub mod Made
pub mod OnCrew
pub mod Orders
pub mod Serial
pub mod OrderPlan
pub mod Verdicts
