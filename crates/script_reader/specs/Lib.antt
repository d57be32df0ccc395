pub mod Grammar
pub mod Lines
pub mod Next
pub mod Scripts
pub mod Reading
