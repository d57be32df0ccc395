pub mod Bounds
pub mod Named
pub mod Sieves
pub mod Codes
pub mod Batches
