pub mod Bits
pub mod Format
