pub mod Judged
pub mod Moments
pub mod Settling
