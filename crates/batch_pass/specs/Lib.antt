pub mod Waiting
pub mod Seen
pub mod Rest
pub mod AtFits
pub mod BatchRest
