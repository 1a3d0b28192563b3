pub mod PartEnds
mod Owning
pub mod Words
mod Placing
mod Choosing
mod Helping
pub mod Filling
mod Frees
pub mod Parts
pub mod Committing
pub mod Bounds
pub mod Withdrawn
pub mod Whole
mod Looks
mod PartActs
mod Bits
mod Choices
mod Onward
mod Ended
