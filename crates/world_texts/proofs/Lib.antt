pub mod Wholes
pub mod Opening
mod Splits
pub mod Steps
mod InWorlds
pub mod Bounds
pub mod Fitting
mod Losses
mod Safe
