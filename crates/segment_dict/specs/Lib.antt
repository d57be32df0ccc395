pub mod Dictionaries
pub mod Texts
pub mod Marks
