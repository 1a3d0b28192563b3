mod Greedy
pub mod Together
pub mod Exist
mod One
