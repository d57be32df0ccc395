pub mod Book
pub mod Commits
pub mod Turns
pub mod Choices
pub mod Stocks
pub mod Invariant
pub mod States
pub mod Orders
