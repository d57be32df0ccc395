pub mod Clerks
pub mod Counted
pub mod Parts
