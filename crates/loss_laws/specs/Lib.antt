pub mod Loses
pub mod Again
