mod Ahead
pub mod Splits
pub mod Streams
pub mod Bare
pub mod Blanks
pub mod CutLemmas
pub mod Cuttings
pub mod FieldLemmas
pub mod Leads
pub mod PassLemmas
pub mod PieceLemmas
pub mod PlainLemmas
pub mod Takes
