pub mod Lists
pub mod Alike
pub mod Moments
pub mod Entries
pub mod Turns
pub mod Course
pub mod Found
pub mod Law
