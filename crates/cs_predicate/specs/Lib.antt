pub mod Sides
pub mod Verdicts
