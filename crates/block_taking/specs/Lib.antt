pub mod Text
pub mod Bound
pub mod Holdings
pub mod Law
pub mod Rest
pub mod AtFits
pub mod Ends
