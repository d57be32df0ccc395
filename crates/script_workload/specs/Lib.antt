pub mod Sequence
pub mod Workload
