pub mod Meaning
pub mod Payload
pub mod Scalars
