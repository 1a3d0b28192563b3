pub mod Report
pub mod LineWords
