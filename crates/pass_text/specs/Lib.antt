pub mod Words
pub mod Pass
pub mod Bound
