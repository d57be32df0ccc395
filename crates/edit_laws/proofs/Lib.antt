pub mod Lists
pub mod Tables
pub mod Rows
pub mod Writes
