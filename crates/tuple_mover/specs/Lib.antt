pub mod Inserts
pub mod Kept
pub mod Spent
pub mod Flushed
