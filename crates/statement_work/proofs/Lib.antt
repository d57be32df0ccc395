pub mod Given
pub mod Outcomes
pub mod Parcelled
pub mod Seen
pub mod Taken
pub mod Working
pub mod Crossing
pub mod Ranges
