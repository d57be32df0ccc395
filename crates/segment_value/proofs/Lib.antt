pub mod Cells
pub mod Codes
pub mod Exponents
pub mod Powers
pub mod Quotients
pub mod Ranges
