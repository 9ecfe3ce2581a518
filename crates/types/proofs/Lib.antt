pub mod Called
pub mod Failing
pub mod Placed
