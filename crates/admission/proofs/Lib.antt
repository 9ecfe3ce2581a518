pub mod Ordering
pub mod Needed
pub mod Progress
pub mod Exactly
pub mod Settled
pub mod Sole
