pub mod Setup
pub mod Creates
pub mod Written
pub mod Order
pub mod Faults
pub mod Tables
