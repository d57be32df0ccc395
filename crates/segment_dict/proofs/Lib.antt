pub mod Entries
pub mod Orders
pub mod Searches
pub mod TextLemmas
pub mod MarkLemmas
