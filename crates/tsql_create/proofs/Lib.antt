pub mod SetupLines
pub mod CreateClauses
pub mod Leftmost
pub mod Sound
pub mod TextOrder
pub mod AllNames
pub mod TableClauses
