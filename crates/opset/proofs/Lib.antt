pub mod Extended
pub mod Lawful
