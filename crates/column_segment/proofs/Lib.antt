mod Best
mod Dicts
mod Entries
mod Kept
mod Last
mod Layouts
pub mod Moved
mod Orders
mod RankLemmas
mod Readings
mod Scaled
