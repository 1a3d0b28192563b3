pub mod Fronts
pub mod Living
pub mod Looks
mod Headline
mod Beside
