pub mod Integers
pub mod Set
pub mod Stands
pub mod Examples
