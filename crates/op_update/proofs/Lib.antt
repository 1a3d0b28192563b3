pub mod Looking
pub mod Bounds
pub mod Kept
pub mod Whole
