pub mod Numerals
pub mod Script
