pub mod Sources
pub mod Endings
