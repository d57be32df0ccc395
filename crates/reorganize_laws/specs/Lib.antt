pub mod Deals
pub mod Left
