pub mod Schedule
pub mod Moves
pub mod Running
pub mod Logs
