pub mod Births
pub mod Heads
pub mod Slots
