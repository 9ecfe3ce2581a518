pub mod Streams
pub mod History
pub mod Machine
pub mod Instant
pub mod Reordered
pub mod Statements
