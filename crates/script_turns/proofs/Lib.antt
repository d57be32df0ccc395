pub mod Entries
pub mod Meanings
pub mod Sessions
pub mod Texts
