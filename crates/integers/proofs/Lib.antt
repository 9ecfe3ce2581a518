pub mod Wraps
pub mod Divides
pub mod Stand
