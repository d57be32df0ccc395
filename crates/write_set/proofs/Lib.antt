pub mod InOrder
pub mod Laid
pub mod Orders
pub mod Puts
