pub mod Cells
pub mod Statements
pub mod Words
pub mod Sound
