pub mod Leftmost
pub mod Refusals
pub mod Steps
pub mod Types
