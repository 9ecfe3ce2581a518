pub mod Members
pub mod Calls
pub mod Linked
