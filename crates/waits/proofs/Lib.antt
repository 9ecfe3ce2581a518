pub mod Bits
pub mod Sets
pub mod Small
pub mod Places
pub mod Chains
