pub mod Set
pub mod Stands
pub mod Examples
