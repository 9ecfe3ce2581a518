pub mod Places
pub mod Readings
pub mod Operators
pub mod Instructions
pub mod Copying
pub mod Calling
