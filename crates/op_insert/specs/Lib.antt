pub mod Text
pub mod Bound
pub mod Law
pub mod Looking
pub mod Rest
pub mod AtFits
pub mod InsertRest
