pub mod PostedReads
pub mod Spread
pub mod PostedBlock
pub mod Looking
pub mod Searching
pub mod Whole
