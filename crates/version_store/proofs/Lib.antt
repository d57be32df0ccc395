pub mod Laid
pub mod LoadLaws
pub mod RunLaws
