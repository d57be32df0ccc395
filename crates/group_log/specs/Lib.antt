pub mod Reports
pub mod Segments
pub mod Followed
pub mod Counted
pub mod Grounds
pub mod Moves
pub mod Reorganizing
