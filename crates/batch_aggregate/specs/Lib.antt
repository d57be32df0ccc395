pub mod Standing
pub mod Tallies
