pub mod Reads
pub mod Hidden
pub mod Scans
