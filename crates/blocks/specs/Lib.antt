pub mod Numbered
pub mod Offsets
pub mod Places
