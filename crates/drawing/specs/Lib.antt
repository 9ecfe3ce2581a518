pub mod Sets
pub mod Extents
pub mod Held
