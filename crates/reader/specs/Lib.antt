pub mod Faults
pub mod Scanning
pub mod Whole
