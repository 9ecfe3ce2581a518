pub mod From
pub mod Calls
