pub mod Settings
pub mod Nexts
