pub mod Added
pub mod Entries
pub mod Shared
