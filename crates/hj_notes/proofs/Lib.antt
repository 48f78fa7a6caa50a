pub mod NoteFront
