pub mod Rules
pub mod Gives
pub mod Drafts
pub mod Tables
pub mod Refused
