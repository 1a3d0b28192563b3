pub mod Untouched
pub mod Opening
pub mod Storing
pub mod Linking
pub mod Nodes
pub mod Starting
pub mod Whole
