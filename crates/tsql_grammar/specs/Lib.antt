pub mod Terminals
pub mod Words
pub mod Forms
pub mod Places
pub mod Values
pub mod Grammar
