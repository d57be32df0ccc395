pub mod Depth
pub mod Lists
pub mod Leftmost
