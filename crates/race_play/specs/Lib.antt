pub mod Commands
pub mod Planned
pub mod Plays
pub mod Texts
pub mod Outcomes
