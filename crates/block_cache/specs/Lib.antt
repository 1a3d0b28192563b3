pub mod Recent
pub mod Cache
pub mod Keeps
pub mod Saved
pub mod Still
