pub mod Writing
pub mod Faults
