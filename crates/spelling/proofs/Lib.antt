pub mod Cuts
pub mod Numbers
pub mod Hex
pub mod Room
pub mod Leaves
pub mod Spelled
pub mod Names
