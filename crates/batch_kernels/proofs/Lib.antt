pub mod OneMore
pub mod Lone
pub mod Batches
pub mod Blocks
