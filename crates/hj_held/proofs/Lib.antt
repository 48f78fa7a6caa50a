pub mod HeldRead
