pub mod Laws
pub mod Many
pub mod Makers
pub mod Whole
pub mod Loops
pub mod Written
pub mod Lines
pub mod Names
