pub mod Cells
pub mod Layouts
pub mod Dicts
pub mod Bodies
pub mod Segments
pub mod Choices
pub mod Ranks
