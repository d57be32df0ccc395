pub mod Events
pub mod Pools
pub mod Rests
pub mod Runs
pub mod Sections
pub mod Statements
pub mod Works
