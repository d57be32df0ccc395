pub mod Shared
pub mod Writes
