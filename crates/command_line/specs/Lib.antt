pub mod Words
pub mod Sizes
pub mod Commands
pub mod Clap
pub mod Arguments
