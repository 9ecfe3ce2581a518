pub mod Fronted
pub mod Whole
