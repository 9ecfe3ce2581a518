pub mod Holds
pub mod Realizes
