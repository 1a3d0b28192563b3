pub mod Breaks
pub mod Held
pub mod Kept
pub mod Outcome
pub mod Shape
pub mod Law
