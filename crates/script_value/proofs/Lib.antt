pub mod Entries
pub mod Joined
pub mod Lines
pub mod Each
pub mod OfCalls
pub mod OfCallsScript
pub mod OfCallsText
