pub mod Checked
pub mod Keep
pub mod Stand
