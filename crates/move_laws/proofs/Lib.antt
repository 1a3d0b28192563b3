pub mod Stable
pub mod Sites
pub mod Leaving
pub mod Marking
pub mod Moving
pub mod Judging
pub mod Whole
