pub mod Syntax
pub mod Spelling
pub mod Decoding
pub mod Reading
pub mod Access
