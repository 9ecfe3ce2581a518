pub mod Adding
pub mod Tested
pub mod Fits
pub mod Called
pub mod Stated
