pub mod Least
pub mod PlaceSet
