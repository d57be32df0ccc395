pub mod Shown
pub mod Columns
pub mod Keys
pub mod Tables
pub mod Scans
pub mod Stretches
