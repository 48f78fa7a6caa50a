pub mod Keys
pub mod ListStore
pub mod NumberedRows
pub mod Places
