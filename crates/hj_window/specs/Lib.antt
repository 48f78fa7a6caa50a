pub mod LiveRows
pub mod Numbers
pub mod SideRows
pub mod LiveView
