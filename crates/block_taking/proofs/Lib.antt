pub mod Bounds
pub mod Own
mod Writing
mod Nodes
pub mod Takes
pub mod Whole
