pub mod Leasts
pub mod Within
pub mod Rows
pub mod Columns
pub mod Parts
pub mod Units
