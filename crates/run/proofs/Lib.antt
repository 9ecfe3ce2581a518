pub mod Sole
pub mod Granted
