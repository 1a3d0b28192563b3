pub mod Words
pub mod Begin
pub mod Move
pub mod Text
pub mod Bound
