pub mod Follow
pub mod Counting
pub mod Claims
pub mod Keeping
pub mod Since
pub mod Moving
pub mod Reorganizing
