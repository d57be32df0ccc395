pub mod Blocks
pub mod Numbers
pub mod Picked
mod Places
mod Written
