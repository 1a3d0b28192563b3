pub mod Chunks
pub mod Stored
pub mod Words
