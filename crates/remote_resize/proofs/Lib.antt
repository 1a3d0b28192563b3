pub mod Moves
pub mod Takes
pub mod Begins
pub mod Parts
