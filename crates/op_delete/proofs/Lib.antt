pub mod Looking
pub mod Ends
pub mod Bounds
pub mod Whole
