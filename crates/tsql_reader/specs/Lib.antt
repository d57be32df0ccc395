pub mod Limits
pub mod Statements
