pub mod NoteText
pub mod NoteWritten
pub mod Notes
pub mod Parts
pub mod TwiceText
pub mod VerifyText
