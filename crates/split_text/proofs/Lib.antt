pub mod Bounds
pub mod Whole
