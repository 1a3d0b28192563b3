pub mod Sorts
pub mod Bound
pub mod Fits
pub mod Safety
pub mod Texts
pub mod Losses
