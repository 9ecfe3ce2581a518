pub mod Fronts
pub mod Fitting
