pub mod Clauses
pub mod Items
pub mod Names
