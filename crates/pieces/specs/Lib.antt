pub mod Holding
pub mod Fitting
