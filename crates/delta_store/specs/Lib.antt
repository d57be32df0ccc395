pub mod Chunks
pub mod Filters
pub mod Index
pub mod Places
pub mod Runs
pub mod Versions
