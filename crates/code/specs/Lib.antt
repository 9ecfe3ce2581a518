pub mod Statements
pub mod Code
pub mod Examples
