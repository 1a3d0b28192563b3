pub mod BlockWords
pub mod Seen
pub mod Rest
pub mod AtFits
pub mod Ends
