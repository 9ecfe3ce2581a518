pub mod Reads
pub mod Waits
pub mod Order
pub mod Placed
pub mod Found
pub mod Need
