pub mod Short
pub mod WordPairs
pub mod Ordering
pub mod Steps
