pub mod Fits
pub mod Right
pub mod Law
