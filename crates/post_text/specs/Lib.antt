pub mod Posts
pub mod Look
pub mod Bound
