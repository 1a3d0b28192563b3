mod Costing
mod Passes
mod Takings
mod Begins
mod Places
pub mod Splits
pub mod Parts
pub mod Fitting
