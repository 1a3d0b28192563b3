pub mod Mixing
pub mod Placing
