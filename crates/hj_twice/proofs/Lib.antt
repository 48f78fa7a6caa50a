pub mod BothJoins
pub mod Kept
