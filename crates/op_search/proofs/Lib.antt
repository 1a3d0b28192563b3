mod Mapped
mod Ends
pub mod Whole
