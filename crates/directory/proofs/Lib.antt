pub mod Bounds
mod Indices
pub mod Child
mod Looking
mod Each
mod Doubling
pub mod Whole
