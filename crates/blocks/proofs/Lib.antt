pub mod Runs
pub mod Placed
pub mod Needing
pub mod Blocked
pub mod Measured
