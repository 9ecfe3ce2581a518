pub mod Types
pub mod Clocks
pub mod Definitions
pub mod First
pub mod Offences
